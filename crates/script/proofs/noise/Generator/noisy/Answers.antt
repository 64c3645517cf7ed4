-- A value takes its noise where both sums fit. Assumes nothing.
use Rattle.std.proofs.Common.{◌≡◌, min, ℤ, ◌+ℤ◌, SFits, refl, ap, ◌∙◌, rules}
use Rattle.std.specs.Int.{w32}
use Rattle.complex.specs.Arithmetic.{◌⊕◌}
use Rattle.complex.proofs.Machine.{add_asks}
use Rattle.complex.proofs.Ring.{by_components}
use Rattle.script.specs.Noise.{next_state, noise_number}
use Rattle.script.proofs.NoisyParts.{sum_fits, sum_is}
use Rattle.script.proofs.noise.Generator.noisy.Goals as goal

pub returns-in_err-re-clause-result : goal.returns-in_err-re-clause-result
unfolding ◌⊕◌
returns-in_err-re-clause-result c =
    let f : SFits w32 c.args.z.re = search rules in
    let g : SFits w32 c.noise.result = search rules in
    rw c.from_residual.ensures (λ h. c.in_err-re.ensures (add_asks f g (rw (c.noise.ensures.result, c.noise.ensures.state) h.re)))

pub returns-in_err-im-clause-result : goal.returns-in_err-im-clause-result
unfolding ◌⊕◌
returns-in_err-im-clause-result c =
    let f : SFits w32 c.args.z.im = search rules in
    let g : SFits w32 c.noise-2.result = search rules in
    rw c.from_residual-in_err-im.ensures (λ h. c.in_err-im.ensures (add_asks f g (rw (c.noise-2.ensures.result, c.noise-2.ensures.state, c.noise.ensures.state) h.im)))

pub returns-clause-result : goal.returns-clause-result
unfolding ◌⊕◌
returns-clause-result c =
    let f : SFits w32 c.args.z.re = search rules in
    let g : SFits w32 c.noise.result = search rules in
    let f' : SFits w32 c.args.z.im = search rules in
    let g' : SFits w32 c.noise-2.result = search rules in
    let s = c.args.self.now.state in
    let first = c.noise.ensures in
    let second = c.noise-2.ensures in
    let e : c.noise.result ≡ noise_number (min c.args.size 100000) (next_state s) = rw (first.result, first.state) refl in
    let e' : c.noise-2.result ≡ noise_number (min c.args.size 100000) (next_state (next_state s)) = rw (second.result, second.state, first.state) refl in
    let re = c.in_ok-re.ensures in
    let im = c.in_ok-im.ensures in (
      record { re = rw e at (sum_fits f g re.0); im = rw e' at (sum_fits f' g' im.0) },
      by_components (sum_is f g re.0 re.1 ∙ ap (λ (y : ℤ). c.args.z.re +ℤ y) e) (sum_is f' g' im.0 im.1 ∙ ap (λ (y : ℤ). c.args.z.im +ℤ y) e'),
    )
