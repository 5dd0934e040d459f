-- Entries that are put into a map, the last one first.
use Rattle.std.proofs.Common.{◌≡◌, Bool, true, false, cond, List, [], ◌∷◌, ◌++◌, refl, sym, ap, ◌∙◌}
use Rattle.std.specs.Prelude.{Option, Some, None}
use Rattle.std.specs.Option.{option_and_then}
use Rattle.k_terms.specs.declared.value.Value.{Value}
use Rattle.rule_terms.specs.Fill.{put_new}
use Rattle.right_sides.specs.Entries.{put_one}

abbrev Entries : Type 0
Entries = List (Value × Value)

chained : {A B C : Type 0} (f : A → Option B) (g : B → Option C) (o : Option A) → option_and_then g (option_and_then f o) ≡ option_and_then (λ x. option_and_then g (f x)) o
chained f g None = refl
chained f g (Some x) = refl

itself : (o : Option Entries) → o ≡ option_and_then Some o
itself None = refl
itself (Some x) = refl

-- the last one, and then the others
pub put_last : (es : Entries) (e : Value × Value) (others : Entries) → put_new (es ++ e ∷ []) others ≡ option_and_then (put_new es) (put_one e others)
put_last [] e others = itself (put_one e others)
put_last (f ∷ es) e others = ap (option_and_then (put_one f)) (put_last es e others) ∙ chained (put_new es) (put_one f) (put_one e others)

-- ---- one entry of those that are left

module _ (all : Option Entries) (left rest : Entries) (e : Value × Value) (here after : Entries) (is_new : Bool)
    (before : all ≡ put_new left here) (last : left ≡ rest ++ e ∷ []) (told : cond is_new (Some after) None ≡ put_one e here) where
  first : all ≡ option_and_then (put_new rest) (cond is_new (Some after) None)
  first = before ∙ ap (λ es. put_new es here) last ∙ put_last rest e here ∙ ap (option_and_then (put_new rest)) (sym told)

  -- its key is there
  pub put_stops : is_new ≡ false → None ≡ all
  put_stops is = sym (first ∙ ap (λ b. option_and_then (put_new rest) (cond b (Some after) None)) is)

  -- or is new
  pub put_goes_on : is_new ≡ true → all ≡ put_new rest after
  put_goes_on is = first ∙ ap (λ b. option_and_then (put_new rest) (cond b (Some after) None)) is
