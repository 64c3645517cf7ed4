-- The gains that a plan's records make, one after the other, and document 01's load plan. Assumes nothing.
use Rattle.std.proofs.Common.{◌≡◌, refl, sym, ap, ◌∙◌, ℕ, suc, ◌+◌, ◌<◌, ◌≤◌, List, [], ◌∷◌, Bool, length, get_or, drop, replicate, arith, add-one}
use lib.Dec.{leb}
use lib.ListN.{set, length-set, drop_of_length-le}
use lib.Seq.{drop-cons}
use mathlib.Core.Bool.{not}
use Rattle.codes.specs.Range.{any}
use Rattle.codes.specs.Refusals.{Answer, gives, refused, RefusalRule, ◌if◌, ◌otherwise◌}
use Rattle.codes.specs.Tree.{is_spreading_factor}
use Rattle.codes.specs.declared.tree.Code.{Code}
use Rattle.modulation.specs.Nodes.{node}
use Rattle.slot.specs.declared.Settings.{Settings}
use Rattle.slot.specs.View.{view}
use Rattle.tables.specs.OpenCodes.{clashes, is_leaf_open}
use Rattle.tables.specs.PairChanges.{with_open_cleared}
use Rattle.tables.proofs.Cleared.{one_more_open}
use Rattle.bench.specs.declared.Bench.{Bench}
use Rattle.bench.specs.declared.Channel.{Channel}
use Rattle.bench.specs.BenchCalls.{AnswerAt, refused_at, loads, bad_gain, fresh_settings, load_plan_call, open_refusals, opened_in_order, some_code}
use Rattle.bench.specs.Changes.{with_bits, with_gain, with_gains, with_pairs, with_settings}
use Rattle.bench.specs.Plans.{gains_after, gains_from, gains_of, with_opened}
use Rattle.bench.proofs.Accepted.{IsFound, all_passed, gain_range, good_code, same_code, still_given, still_refused}
use Rattle.bench.proofs.Opened.{related_in_gains}

-- ---- one record, whose tests ran where these gains are set
module _ (g : List ℕ) (c : Channel) where
  abbrev pub tests : List RefusalRule
  tests = open_refusals (view (with_gains fresh_settings g)) c.q c.k c.gain

  opened : (code : Code) → IsFound tests code c.q c.k → gains_after g c ≡ gives (set g (node code.q code.k) c.gain)
  opened code e = let q = same_code tests code c.q c.k e in rw (q.0, q.1) (still_given (c.q, c.k) (set g (node c.q c.k) c.gain) tests e)

  failed : {n : ℕ} → ◌≡◌ {A = Answer (ℕ × ℕ)} (refused n) (tests otherwise (c.q, c.k)) → gains_after g c ≡ refused n
  failed e = still_refused (c.q, c.k) (set g (node c.q c.k) c.gain) tests e

-- ---- the walk along the list: the record at i, then those after it, are those from i on
next_from : ℕ → List Channel → Answer (List ℕ) → AnswerAt (List ℕ)
next_from place cs a = elim a [ refused n ↦ refused_at n place | gives next ↦ gains_from (suc place) next cs ]

module _ (ys : List Channel) (i : ℕ) (g : List ℕ) where
  pub one_opened : (d : Channel) → i < length ys → (code : Code) → let c = get_or ys i d in IsFound (tests g c) code c.q c.k
      → gains_from (i + 1) (set g (node code.q code.k) c.gain) (drop (i + 1) ys) ≡ gains_from i g (drop i ys)
  unfolding gains_from next_from
  one_opened d l code e = rw (add-one i, drop-cons ys i d l) (sym (ap (next_from i (drop (suc i) ys)) (opened g (get_or ys i d) code e)))

  pub one_failed : (d : Channel) (n : ℕ) → i < length ys → let c = get_or ys i d in ◌≡◌ {A = Answer (ℕ × ℕ)} (refused n) (tests g c otherwise (c.q, c.k))
      → refused_at n i ≡ gains_from i g (drop i ys)
  unfolding gains_from next_from
  one_failed d n l e = rw (drop-cons ys i d l) (sym (ap (next_from i (drop (suc i) ys)) (failed g (get_or ys i d) e)))

  pub none_left : length ys ≤ i → loads g ≡ gains_from i g (drop i ys)
  unfolding gains_from
  none_left l = rw (drop_of_length-le ys {i = i} l)

-- ---- open's refusals look at the gains alone
refusals_in_gains : (s t : Settings) → s.gains ≡ t.gains → (Q k g : ℕ) → open_refusals (view s) Q k g ≡ open_refusals (view t) Q k g
refusals_in_gains s t e Q k g =
    ap (λ (r : Bool). 3 if not (is_spreading_factor Q) ∷ 4 if leb Q k ∷ 5 if bad_gain g ∷ 6 if r ∷ [])
    (related_in_gains s Q k ∙ ap (λ (gains : List ℕ). some_code (clashes gains Q k)) e ∙ sym (related_in_gains t Q k))

-- ---- one record, where the gains g were opened on bench b, against open on the bench that they make
module _ (b : Bench) (g : List ℕ) (c : Channel) where
  abbrev before : Settings
  before = (with_opened b g).settings

  abbrev next : Bench
  next = with_settings b (with_bits (with_gain before c.q c.k c.gain) c.q c.k [])

  same_tests : open_refusals (view before) c.q c.k c.gain ≡ tests g c
  same_tests = refusals_in_gains before (with_gains fresh_settings g) refl c.q c.k c.gain

  abbrev opens : Answer Bench
  opens = open_refusals (view before) c.q c.k c.gain otherwise next

  abbrev new : List ℕ
  new = set g (node c.q c.k) c.gain

  opens_too : length g ≡ 31 → {x : List ℕ} → gives x ≡ gains_after g c → opens ≡ gives (with_opened b new)
  opens_too len e =
      let p = (all_passed new (tests g c) e).0 in
      ap (λ (rs : List RefusalRule). rs otherwise next) same_tests ∙ still_given new next (tests g c) e
      ∙ ap (λ (pairs : List ℕ). gives (with_settings b (with_pairs (with_gains b.settings new) pairs)))
      (one_more_open g c.q c.k c.gain (good_code c.q c.k p.0 p.1.0) (λ n. let r = gain_range c.gain p.1.1.0 in omega arith) len b.settings.pairs)

  fails_too : (n : ℕ) → refused n ≡ gains_after g c → opens ≡ refused n
  fails_too n e = ap (λ (rs : List RefusalRule). rs otherwise next) same_tests ∙ still_refused new next (tests g c) e

-- so the records are opened in turn
abbrev pub settled : Bench → AnswerAt (List ℕ) → AnswerAt Bench
settled b (refused_at n place) = refused_at n place
settled b (loads g) = loads (with_opened b g)

walked_in_order : (b : Bench) (g : List ℕ) → length g ≡ 31 → (place : ℕ) (cs : List Channel)
    → settled b (gains_from place g cs) ≡ opened_in_order place (with_opened b g) cs
unfolding gains_from opened_in_order
walked_in_order b g len place [] = refl
walked_in_order b g len place (c ∷ cs) = go (gains_after g c) refl (λ g' l. walked_in_order b g' l (suc place) cs)
  where
    then : Answer Bench → AnswerAt Bench
    then a = elim a [ refused m ↦ refused_at m place | gives next ↦ opened_in_order (suc place) next cs ]

    go : (a : Answer (List ℕ)) → gains_after g c ≡ a
        → ((g' : List ℕ) → length g' ≡ 31 → settled b (gains_from (suc place) g' cs) ≡ opened_in_order (suc place) (with_opened b g') cs)
        → settled b (elim a [ refused n ↦ refused_at n place | gives next ↦ gains_from (suc place) next cs ]) ≡ then (opens b g c)
    go (refused n) e on = sym (ap then (fails_too b g c n (sym e)))
    go (gives g') e on =
        let p = all_passed (new b g c) (tests g c) (sym e) in
        rw p.1 (on (new b g c) (length-set g _ _ ∙ len) ∙ sym (ap then (opens_too b g c len (sym e))))

pub plan_settled : (b : Bench) (plan : List Channel) → settled b (gains_of plan) ≡ load_plan_call b plan
unfolding with_open_cleared any is_leaf_open
plan_settled b plan = walked_in_order b (replicate 31 0) refl 0 plan

-- ---- the same of what the records before i came to, refused or not
-- the record c at `place`, unless one before it failed
abbrev pub with_record : AnswerAt (List ℕ) → ℕ → Channel → AnswerAt (List ℕ)
with_record (refused_at n at) place c = refused_at n at
with_record (loads g) place c = elim (gains_after g c) [ refused n ↦ refused_at n place | gives next ↦ loads next ]

-- record after record, the first of them at `place`
abbrev pub with_records : AnswerAt (List ℕ) → ℕ → List Channel → AnswerAt (List ℕ)
with_records (refused_at n at) place cs = refused_at n at
with_records (loads g) place cs = gains_from place g cs

-- the record at i, then those after it, are those from i on
pub one_more : (t : AnswerAt (List ℕ)) (ys : List Channel) (i : ℕ) (d : Channel) {r : AnswerAt (List ℕ)} → i < length ys → r ≡ with_record t i (get_or ys i d)
    → with_records r (i + 1) (drop (i + 1) ys) ≡ with_records t i (drop i ys)
unfolding gains_from
one_more (refused_at n at) ys i d l e = rw e refl
one_more (loads g) ys i d l e = rw (add-one i, e, drop-cons ys i d l) (step (gains_after g (get_or ys i d)))
  where
    step : (a : Answer (List ℕ))
        → with_records (elim a [ refused n ↦ refused_at n i | gives next ↦ loads next ]) (suc i) (drop (suc i) ys)
        ≡ elim a [ refused n ↦ refused_at n i | gives next ↦ gains_from (suc i) next (drop (suc i) ys) ]
    step (refused n) = refl
    step (gives next) = refl

-- after the last record, what was taken settles to load plan
pub all_taken : (b : Bench) (t : AnswerAt (List ℕ)) (ys : List Channel) (i : ℕ) → length ys ≤ i → with_records t i (drop i ys) ≡ with_records (loads (replicate 31 0)) 0 ys
    → settled b t ≡ load_plan_call b ys
all_taken b (refused_at n at) ys i l e = ap (settled b) e ∙ plan_settled b ys
all_taken b (loads g) ys i l e = ap (settled b) (none_left ys i g l ∙ e) ∙ plan_settled b ys
