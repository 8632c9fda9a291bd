-- `capi_vectors::inner::put_one` meets its contract. Assumes nothing.
use mathlib.Core.Path.{◌∙◌, ap, sym}
use Rattle.capi_vectors.specs.Single.{single, put}
use Rattle.capi_vectors.proofs.Places.{one_place}
use Rattle.capi_vectors.proofs.inner.put_one.Goals as goal

pub returns-in-Ok : goal.returns-in-Ok
returns-in-Ok g c = ap (λ l. single 0 l) (one_place c.args.out.now _ c.requires) ∙ sym (ap (λ a. put a c.args.out.now) c.in-Ok.is)
