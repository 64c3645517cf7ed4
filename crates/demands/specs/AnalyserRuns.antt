-- Runs of the analyser's functions. As of the bench's functions, a run says of each what its own `ensures` gives its callers (`Learnt`), and nothing else; e has its
-- parameters as they are when it returns.
use Rattle.std.specs.Prelude.{ℕ, List, ℤ, Result}
use contract.Lifetimes.{Lfts}
use Rattle.std.specs.Borrow.{Bor, MutBor}
use Rattle.complex.specs.Buffers.{Values, written}
use Rattle.codes.specs.Answers.{answer_of}
use Rattle.codes.specs.Refusals.{Answer, gives}
use Rattle.codes.specs.declared.refusal.Refusal.{Refusal}
use Rattle.read.proofs.read.Reads as read_contract
use Rattle.harden.proofs.harden.Reads as harden_contract
use Rattle.read_sync.specs.declared.Candidate.{Candidate}
use Rattle.read_sync.proofs.read_sync.Reads as read_sync_contract

-- what a function answered, and what it left in the buffers that it was lent to write to
pub record Output (B : Type 0) : Type 0 where
  pub answer : Answer (Unit {0})
  pub left : B

-- what two references hold
abbrev pub both : Bor (List ℤ) → Bor (List ℤ) → Values
both re im = record { re = re.now; im = im.now }

-- and two that may be written to
abbrev pub both_lent : MutBor (List ℤ) → MutBor (List ℤ) → Values
both_lent re im = record { re = re.now; im = im.now }

-- read (parameter, Q, k, field, two answer buffers) answered and left y
pub data RanRead (p Q k : ℕ) : (field out : Values) → Output Values → Type 0 where
  by_read : (κs : Lfts 4) (re im : Bor (List ℤ)) (outre outim : MutBor (List ℤ)) (r : Result (Unit {0}) Refusal) (e : _)
      → read_contract.Learnt κs (record { 0 = p }, (Q, (k, (re, (im, (outre, (outim, tt))))))) r e
      → RanRead p Q k (both re im) (both_lent outre outim) (record { answer = answer_of r; left = both_lent e.1.1.1.1.1.0 e.1.1.1.1.1.1.0 })

-- harden (readings, byte buffer) answered and left y
pub data RanHarden : (readings : Values) (bits : List ℕ) → Output (List ℕ) → Type 0 where
  by_harden : (κs : Lfts 3) (re im : Bor (List ℤ)) (bits : MutBor (List ℕ)) (r : Result (Unit {0}) Refusal) (e : _) → harden_contract.Learnt κs (re, (im, (bits, tt))) r e
      → RanHarden (both re im) bits.now (record { answer = answer_of r; left = e.1.1.0.now })

-- read sync (case, chips) answered t
pub data RanReadSync (case : ℕ) : (chips : Values) → Answer Candidate → Type 0 where
  by_read_sync : (κs : Lfts 2) (re im : Bor (List ℤ)) (r : Result Candidate Refusal) (e : _) → read_sync_contract.Learnt κs (case, (re, (im, tt))) r e
      → RanReadSync case (both re im) (answer_of r)

-- accepted, and these values written: "entries past those written stay"
abbrev pub wrote : Values → Values → Output Values
wrote v out = record { answer = gives tt; left = record { re = written v.re out.re; im = written v.im out.im } }

abbrev pub wrote_bits : List ℕ → List ℕ → Output (List ℕ)
wrote_bits v bits = record { answer = gives tt; left = written v bits }
