use Rattle.vector_store.specs.Search.{told_of, works}
use Rattle.steps.specs.Memory.{memory_of}
use Rattle.steps.proofs.Cases.{find_is, few_listed}
use Rattle.steps.proofs.inner.find_front.Goals as goal

pub returns-clause-found : goal.returns-clause-found
returns-clause-found c =
    let l = c.parts_of-l.ensures in
    find_is c.args.g (memory_of c.args.bases.now c.args.faces.now c.args.marks.now c.args.vectors.now) _ _ _ _ l.bases l.faces l.marks l.vectors _ c.geometry.ensures c.args.v.now c.args.work.now c.args.layers.now c.args.joined.now c.args.query.k c.args.query.search_k c.args.query.spill (told_of c.find_nearest.result) (works c.find_nearest.new.work c.find_nearest.new.layers c.find_nearest.new.set) c.find_nearest.ensures

pub returns-clause-few : goal.returns-clause-few
returns-clause-few c = few_listed c.find_nearest.result _ _ _ _ _ _ _ _ _ c.find_nearest.ensures
