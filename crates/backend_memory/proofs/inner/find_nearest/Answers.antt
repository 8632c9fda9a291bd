-- `backend_memory::inner::find_nearest` meets its contract: ranking the marks by themselves asks for no mark. Assumes nothing.
use mathlib.Core.Path.{◌∙◌}
use Rattle.backend_memory.proofs.Counts.{scan_ranks}
use Rattle.backend_memory.proofs.inner.find_nearest.Goals as goal

pub returns : goal.returns
returns c = let a = c.args in c.rank.ensures ∙ scan_ranks a.mode a.k a.marks.now a.vectors.now a.target.now
