-- The form of a pattern that names no constructor is the same wherever it stands.
use Rattle.std.proofs.Common.{◌≡◌, ◌∙◌, List, subst}
use Rattle.sled_model.specs.declared.pattern.Pattern.{Pattern}
use Rattle.sled_model.specs.declared.shape.Shape.{Shape}
use Rattle.sled_model.specs.Leaves.{AllLeaves, NamesNoConstructor}
use Rattle.sled_model.specs.Shapes.{ShapeContext}
use Rattle.sled_model.proofs.ShapeContexts.{plain_form, plain_shapes}
use Rattle.pattern_shapes.specs.declared.form.Form.{Form}
use Rattle.pattern_shapes.specs.Forms.{SameMembers, IsFormOf}

pub form_anywhere : (cx dx : ShapeContext) → cx.tokens ≡ dx.tokens → (p : Pattern) (form : Form) → AllLeaves NamesNoConstructor p → IsFormOf cx p form → IsFormOf dx p form
form_anywhere cx dx tokens p form plain is =
    let same = plain_form cx dx tokens p plain in
    record {
      members = subst (λ (ss : List Shape). SameMembers form.shapes ss) (plain_shapes cx dx tokens p plain) is.members;
      once = is.once;
      agree = is.agree ∙ same.agree;
      closed = is.closed ∙ same.closed;
      alike = is.alike ∙ same.alike;
    }
