-- What is told of contents by their parts.
use Rattle.std.proofs.Common.{◌≡◌, ℕ, Bool, List, sym, ap, ◌∙◌}
use Rattle.std.specs.Prelude.{Option, Some}
use Rattle.std.specs.Option.{option_map}
use Rattle.k_terms.specs.declared.value.Value.{Value}
use Rattle.k_terms.specs.declared.value.Content.{Content}
use Rattle.k_terms.specs.declared.value.Content.TheVariants.{Seq as SeqContent, List as ListContent, One as OneContent}
use Rattle.k_terms.specs.Sorts.{SortOrder}
use Rattle.rule_terms.specs.declared.pattern.Body.{Body}
use Rattle.rule_terms.specs.Substitution.{Subst}
use Rattle.rule_terms.specs.Fill.{content_of}
use Rattle.rule_terms.proofs.Defined.{map_gives}
use Rattle.leaf_match.specs.Bindings.{Partial, Tells}
use Rattle.leaf_match.proofs.Told.{told_alike}

pub sequences_differ : (a b : List Value) → SeqContent a ≡ SeqContent b → a ≡ b
sequences_differ a b e = cc

pub lists_differ : (a b : List Value) → ListContent a ≡ ListContent b → a ≡ b
lists_differ a b e = cc

pub values_differ : (a b : Value) → OneContent a ≡ OneContent b → a ≡ b
values_differ a b e = cc

-- a content that is made of its parts
pub told_content : {A : Type 0} (o : SortOrder) (vars : List ℕ) (make : A → Content) → ((a b : A) → make a ≡ make b → a ≡ b)
    → (found : Bool) (before after : Partial) (parts : Subst → Option A) (x lent : A) (body : Body) (content : Content)
    → ((s : Subst) → content_of body s ≡ option_map make (parts s)) → content ≡ make x → lent ≡ x
    → Tells o vars found before after (λ s. parts s ≡ Some lent) → Tells o vars found before after (λ s. content_of body s ≡ Some content)
told_content {A} o vars make differ found before after parts x lent body content fills is same tells =
    told_alike o vars found before after (λ s. parts s ≡ Some lent) (λ s. content_of body s ≡ Some content)
    (λ s. (
      (λ e. fills s ∙ ap (option_map make) (e ∙ ap Some same) ∙ ap Some (sym is)),
      (λ e. let made = map_gives make (parts s) content (sym (fills s) ∙ e) in
          made.1 ∙ ap Some (differ made.0 x (made.2 ∙ is) ∙ sym same)),
    )) tells
