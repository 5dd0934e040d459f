-- What the sorts of a rule's variables tell of a pattern, where further variables stand behind these.
use Rattle.std.proofs.Common.{◌≡◌, ℕ, zero, suc, Bool, true, false, cond, not, ◌==◌, ◌&&◌, List, [], ◌∷◌, ◌++◌, map, Option, Some, None, refl, sym, ap, ◌∙◌}
use Rattle.std.proofs.lemmas.Option.{slice_get-map}
use Rattle.std.specs.Prelude.{slice_get, is_some}
use Rattle.std.specs.Option.{option_map_or}
use Rattle.std.specs.List.{AllByRecursion}
use Rattle.k_terms.specs.Sorts.{sort_k}
use Rattle.rule_terms.specs.declared.pattern.Pattern.{Pattern, Var, Lit, Seq, Node' as NodeP', Items' as ItemsP', Seq' as SeqP', Freezer' as FreezerP', Apply' as ApplyP'}
use Rattle.rule_terms.specs.Sound.{is_sequence_variable, is_item, has_whole_sequences}
use Rattle.rule_parts.specs.declared.terms.Occurrence.{Occurrence}
use Rattle.rule_parts.specs.Terms.{number_of, sort_of_number, tail_of, is_whole}
use Rattle.sound_sequences.proofs.Wholes.{whole-Seq}

pub get_front : {X : Type 0} (xs ys : List X) (i : ℕ) (x : X) → slice_get xs i ≡ Some x → slice_get (xs ++ ys) i ≡ Some x
get_front [] ys i x is = absurd (let f : None ≡ Some x = is in cc)
get_front (y ∷ xs) ys zero x is = is
get_front (y ∷ xs) ys (suc i) x is = get_front xs ys i x is

-- the variable of an occurrence has a number, and its sort is the one that it has there; the occurrence stands where it may
pub record IsSettled (vars : List Occurrence) (found : Occurrence) : Type 0 where
  pub known : sort_of_number vars (number_of vars found.home) ≡ Some found.sort
  pub placed : found.is_stray ≡ false

abbrev pub AreSettled : List Occurrence → List Occurrence → Type 0
AreSettled vars found = AllByRecursion (IsSettled vars) found

-- the sorts of variables, and further ones behind
abbrev pub sorts_with : List Occurrence → List ℕ → List ℕ
sorts_with vars more = map (λ (v : Occurrence). v.sort) vars ++ more

module _ (vars : List Occurrence) (more : List ℕ) where
  -- whether a pattern is a variable of sort K is known from these variables
  abbrev pub IsTold : Pattern → Type 0
  IsTold part = is_sequence_variable (sorts_with vars more) part ≡ is_some (tail_of vars part)

  -- so is it of a rest
  abbrev pub IsToldRest : Option ℕ → Type 0
  IsToldRest None = Unit {0}
  IsToldRest (Some x) = IsTold (Var x)

  abbrev pub HasToldRest : Pattern → Type 0
  HasToldRest (Var x) = Unit {0}
  HasToldRest (Lit v) = Unit {0}
  HasToldRest (NodeP' p _ parts) = Unit {0}
  HasToldRest (ItemsP' p _ parts rest) = Unit {0}
  HasToldRest (SeqP' _ parts rest) = IsToldRest rest
  HasToldRest (FreezerP' p i _ parts) = Unit {0}
  HasToldRest (ApplyP' op _ parts) = Unit {0}

  -- A pattern whose sequences are whole. It is an item unless a whole sequence may stand there.
  pub record IsSound (whole : Bool) (part : Pattern) : Type 0 where
    pub told : IsTold part
    pub rest : HasToldRest part
    pub wholes : has_whole_sequences (sorts_with vars more) part ≡ true
    pub item : whole ≡ false → is_item (sorts_with vars more) part ≡ true

  -- ---- variables

  pub sort_there : (x sort : ℕ) → sort_of_number vars x ≡ Some sort → slice_get (sorts_with vars more) x ≡ Some sort
  sort_there x sort is = get_front (map (λ (v : Occurrence). v.sort) vars) more x sort (slice_get-map (λ (v : Occurrence). v.sort) vars x ∙ is)

  some_number : (b : Bool) (x : ℕ) → b ≡ is_some (cond b (Some x) None)
  some_number true x = refl
  some_number false x = refl

  pub variable_told : (x sort : ℕ) → sort_of_number vars x ≡ Some sort → IsTold (Var x)
  variable_told x sort is =
      ap (λ (o : Option ℕ). option_map_or (λ s. s == sort_k) o false) (sort_there x sort is)
      ∙ some_number (sort == sort_k) x
      ∙ ap (λ (o : Option ℕ). is_some (cond (option_map_or (λ s. s == sort_k) o false) (Some x) None)) (sym is)

  pub variable_item : (x sort : ℕ) → sort_of_number vars x ≡ Some sort → (sort == sort_k) ≡ false → is_item (sorts_with vars more) (Var x) ≡ true
  variable_item x sort is other = ap (λ (o : Option ℕ). not (option_map_or (λ s. s == sort_k) o false)) (sort_there x sort is) ∙ ap not other

  -- ---- what no variable of sort K is

  no_tail : (part : Pattern) → is_whole vars part ≡ false → is_some (tail_of vars part) ≡ false
  no_tail (Var x) e = ap (λ b. is_some (cond b (Some x) None)) e
  no_tail (Lit v) e = refl
  no_tail (NodeP' p _ parts) e = refl
  no_tail (ItemsP' p _ parts rest) e = refl
  no_tail (SeqP' _ parts rest) e = refl
  no_tail (FreezerP' p i _ parts) e = refl
  no_tail (ApplyP' op _ parts) e = refl

  pub item_of : (part : Pattern) → IsTold part → is_some (tail_of vars part) ≡ false → is_item (sorts_with vars more) part ≡ true
  item_of part told none = ap not (told ∙ none)

  -- an empty sequence
  pub nothing_sound : (whole : Bool) → IsSound whole (Seq [] None)
  nothing_sound whole = record { told = refl; rest = tt; wholes = whole-Seq (sorts_with vars more) [] None; item = λ e. refl }

  -- the sequence of one item
  pub one_sound : (whole : Bool) (part : Pattern) → IsTold part → is_whole vars part ≡ false → has_whole_sequences (sorts_with vars more) part ≡ true
      → IsSound whole (Seq (part ∷ []) None)
  one_sound whole part told single wholes = record {
    told = refl;
    rest = tt;
    wholes = whole-Seq (sorts_with vars more) (part ∷ []) None ∙ (λ i. (wholes i && true) && (item_of part told (no_tail part single) i && true));
    item = λ e. refl;
  }
