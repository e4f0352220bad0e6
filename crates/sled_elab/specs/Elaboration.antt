-- What declarations make, one after another.
use Rattle.std.specs.Prelude.{List, fold}
use Rattle.sled_parser.specs.declared.tree.Decl.{Decl}
use Rattle.sled_parser.specs.declared.tree.Decl.TheVariants as decl
use Rattle.sled_model.specs.declared.spec.Spec.{Spec}
use Rattle.sled_elab.specs.Declarations.{Described, nothing, with_class, with_definition, constructor_tree, with_built}

-- a description with one declaration more; a heading declares nothing
abbrev pub after : Described → Decl → Described
after d (decl.Class name width little fields) = with_class d name width little fields
after d (decl.Heading section) = d
after d (decl.Definition name items tree) = with_definition d name items tree
after d (decl.ConstructorDecl opcode operands makes equations body) = with_built d (constructor_tree opcode operands makes equations body)

-- what the declarations make
abbrev pub described : List Decl → Described
described decls = fold after nothing decls

-- the description that the declarations make
abbrev pub spec_of : List Decl → Spec
spec_of decls = (described decls).spec
