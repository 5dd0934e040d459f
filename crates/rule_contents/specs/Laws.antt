-- The laws of contents.
use Rattle.std.specs.Prelude.{◌≡◌, ℕ, Bool, List, Option}
use Rattle.grammar_terms.specs.declared.shape.Shape.{Shape}
use Rattle.grammar_terms.specs.declared.word.Word.{Word}
use Rattle.grammar_terms.specs.Grammar.{Syntax}
use Rattle.rule_terms.specs.declared.defs.Kind.{Kind}
use Rattle.rule_contents.specs.declared.reading.Form.{Form}
use Rattle.rule_contents.specs.declared.reading.ContentFault.{ContentFault}
use Rattle.rule_contents.specs.Operators.{IsOperatorPlace}
use Rattle.rule_contents.specs.Readings.{IsContent, IsContentFault}

-- words are a content of one form and one shape
abbrev pub HasOneContent : Type 0
HasOneContent =
    (g : Syntax) (kind : Kind) (is_new : Bool) (words : List Word) (form later : Form) (one other : Shape)
    → IsContent g kind is_new words form one → IsContent g kind is_new words later other → (form ≡ later) × (one ≡ other)

-- no content has a fault
abbrev pub HasNotBoth : Type 0
HasNotBoth =
    (g : Syntax) (kind : Kind) (is_new : Bool) (words : List Word) (form : Form) (shape : Shape) (fault : ContentFault)
    → IsContent g kind is_new words form shape → IsContentFault g kind is_new words fault → ⊥

-- words have one fault
abbrev pub HasOneFault : Type 0
HasOneFault =
    (g : Syntax) (kind : Kind) (is_new : Bool) (words : List Word) (one other : ContentFault)
    → IsContentFault g kind is_new words one → IsContentFault g kind is_new words other → one ≡ other

-- a content has one place of a first operator on a left side, or none
abbrev pub HasOneOperatorPlace : Type 0
HasOneOperatorPlace =
    (g : Syntax) (kind : Kind) (form : Form) (words : List Word) (shape : Shape) (one other : Option ℕ)
    → IsOperatorPlace g kind form words shape one → IsOperatorPlace g kind form words shape other → one ≡ other
