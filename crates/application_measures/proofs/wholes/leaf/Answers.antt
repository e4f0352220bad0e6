use Rattle.std.proofs.lemmas.Result.{IfOk-weaker}
use Rattle.application_measures.specs.Arms.{AreArmMeasures}
use Rattle.application_measures.specs.Parts.{AreOver}
use Rattle.application_measures.proofs.Mirrors.{leaf_measured}
use Rattle.application_measures.proofs.wholes.leaf.Goals as goal

pub returns : goal.returns
returns c =
    let spec = c.args.spec.now in let p = c.args.pattern.now in
    IfOk-weaker c.over.result (AreOver spec.tokens c.new.result p) (AreArmMeasures spec p)
    (λ m h. leaf_measured spec p c.requires.leaf c.new.result c.new.ensures m h)
    c.over.ensures
