-- `leader` meets its contract: the scores made from the products are those of the definition. Assumes nothing.
use mathlib.Core.Path.{◌≡◌, sym, ap, ◌∙◌, subst}
use Prim.Native.Nat.{ℕ, ◌+◌}
use native.Mathlib.Nat.{zero-add}
use Rattle.complex.specs.Buffers.{listed, value}
use Rattle.complex.specs.Fits.{Bound}
use Rattle.analyser_parts.specs.Correlation.{P}
use Rattle.analyser_parts.specs.PartSums.{correlated}
use Rattle.analyser_parts.proofs.Correlations.{primary_is}
use Rattle.read_sync.specs.SyncReading.{score}
use Rattle.read_sync.specs.Cases.{case_number}
use Rattle.read_sync.specs.Searching.{score_by}
use Rattle.read_sync.specs.Shares.{product}
use Rattle.read_sync.specs.Leaders.{Leads}
use Rattle.read_sync.proofs.Cases.{count_is}
use Rattle.read_sync.proofs.Leaders.{leads_cong}
use Rattle.read_sync.proofs.Shares.{parts_bound, scores_are}
use Rattle.read_sync.proofs.sync_reading.Chips.leader.Goals as goal

pub invariant_of-a : goal.invariant_of-a
invariant_of-a c =
    let x = c.args.self.now in
    record { re_small = subst (Bound 1600000) (sym c.parts.ensures.0) (parts_bound x.re_small _); im_small = subst (Bound 1600000) (sym c.parts-2.ensures.0) (parts_bound x.im_small _) }

pub invariant_of-b : goal.invariant_of-b
invariant_of-b c =
    let x = c.args.self.now in
    record { re_small = subst (Bound 1600000) (sym c.parts.ensures.1) (parts_bound x.re_small _); im_small = subst (Bound 1600000) (sym c.parts-2.ensures.1) (parts_bound x.im_small _) }

pub returns : goal.returns
returns c =
    let x = c.args.self.now in
    let case = c.args.case in
    let d = c.products.result in
    let u = c.parts.ensures in
    let v = c.parts-2.ensures in
    let p : c.correlation.result ≡ P (value x.re.now x.im.now) = c.correlation.ensures.is ∙ (λ i. correlated (u.0 i) (v.0 i) (c.a_repeat_row.ensures i)) ∙ primary_is x.re.now x.im.now in
    let re = c.products.ensures.0 ∙ (λ j. listed 16 (λ i. (product (u.1 j) (v.1 j) (p j) i).re)) in
    let im = c.products.ensures.1 ∙ (λ j. listed 16 (λ i. (product (u.1 j) (v.1 j) (p j) i).im)) in
    subst (λ (n : ℕ). Leads (score (case_number case) (value x.re.now x.im.now)) n c.leader.result) (sym (count_is case))
    (leads_cong (λ k. score_by case d.re d.im (0 + k)) (score (case_number case) (value x.re.now x.im.now)) _ _
    (λ k _. ap (score_by case d.re d.im) (zero-add k) ∙ scores_are x.re.now x.im.now d.re d.im re im (case_number case) k) c.leader.ensures)
