-- `backend_memory::inner::compute_similarity` meets its contract. Assumes nothing.
use Rattle.backend_memory.proofs.inner.compute_similarity.Goals as goal

pub returns : goal.returns
returns c = c.sqrt.ensures
