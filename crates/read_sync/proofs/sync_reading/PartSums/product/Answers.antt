-- `product` meets its contract. Assumes nothing.
use mathlib.Core.Path.{sym, ap, ◌∙◌}
use Rattle.complex.specs.declared.Complex.{Complex}
use Rattle.complex.specs.Arithmetic.{𝟎, ◌⊗◌, conj}
use Rattle.analyser_parts.specs.PartSums.{correlated}
use Rattle.read_sync.specs.Shares.{product}
use Rattle.read_sync.proofs.sync_reading.PartSums.product.Goals as goal

pub returns-then-not-is_sync_code : goal.returns-then-not-is_sync_code
unfolding product 𝟎
returns-then-not-is_sync_code c = rw (sym c.is_sync_code.ensures ∙ c.if-not-is_sync_code.true)

pub returns : goal.returns
unfolding product
returns c =
    let s = c.args.self.now in
    rw (sym c.is_sync_code.ensures ∙ c.if-not-is_sync_code.false)
    (c.times_conjugate.ensures ∙ ap (λ (z : Complex). z ⊗ conj c.args.p) (c.correlation.ensures.is ∙ ap (correlated s.re s.im) c.secondary_row.ensures))
