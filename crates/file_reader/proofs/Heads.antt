-- Reading by the sign that stands first.
use Rattle.std.proofs.Common.{◌≡◌, ℕ, zero, suc, ◌+◌, ◌<◌, ◌≤◌, Bool, true, false, List, [], ◌∷◌, length, take, drop, refl, sym, ap, ◌∙◌, subst, arith, Option, Some, None}
use Rattle.std.proofs.lemmas.List.{drop-drop, drop_all}
use Rattle.std.specs.Prelude.{slice_get, unwrap_or}
use Rattle.std.specs.Option.{option_to_list}
use Rattle.production_reader.specs.Lexemes.{Lexeme, Sign, Is, Reads, AreAlike}
use Rattle.production_reader.specs.Reading.{IsRead, StopsAt}
use Rattle.production_reader.proofs.Lexemes.{alike_head, alike_less}
use Rattle.file_reader.specs.Heads.{Begins}

pub no_true : ◌≡◌ {A = Bool} false true → ⊥
no_true e = cc

pub none_some : {X : Type 0} {x : X} → ◌≡◌ {A = Option X} None (Some x) → ⊥
none_some e = cc

the_one : (x y : Lexeme) → Some x ≡ Some y → x ≡ y
the_one x y e = ap (λ o. unwrap_or o x) e

pub begins_one : (sign : Sign) (lexemes : List Lexeme) → Begins sign (take 1 lexemes) → Begins sign lexemes
begins_one sign [] is = is
begins_one sign (lexeme ∷ lexemes) is = is

pub one_begins : (sign : Sign) (lexemes : List Lexeme) → Begins sign lexemes → Begins sign (take 1 lexemes)
one_begins sign [] is = is
one_begins sign (lexeme ∷ lexemes) is = is

-- lists that are alike up to a place begin there with the same
pub alike_begins : (sign : Sign) (at : ℕ) (one other : List Lexeme) → AreAlike at one other → Begins sign (drop at one) → Begins sign (drop at other)
alike_begins sign at one other alike is =
    begins_one sign (drop at other) (subst (λ l. Begins sign l) (alike_head at one other alike) (one_begins sign (drop at one) is))

pub reads_begins : (sign : Sign) (signs : List Sign) (a b : List Lexeme) → Reads (sign ∷ signs) a b → Begins sign a
reads_begins sign signs [] b read = read
reads_begins sign signs (lexeme ∷ a) b read = read.0

reads_tail : (sign : Sign) (signs : List Sign) (a b : List Lexeme) → Reads (sign ∷ signs) a b → Reads signs (drop 1 a) b
reads_tail sign signs [] b read = absurd read
reads_tail sign signs (lexeme ∷ a) b read = read.1

reads_head : (sign : Sign) (signs : List Sign) (a b : List Lexeme) → Begins sign a → Reads signs (drop 1 a) b → Reads (sign ∷ signs) a b
reads_head sign signs [] b is read = absurd is
reads_head sign signs (lexeme ∷ a) b is read = (is, read)

-- the signs after the first are read one place further
pub reads_next : (sign : Sign) (signs : List Sign) (all after : List Lexeme) (from : ℕ) → Reads (sign ∷ signs) (drop from all) after → Reads signs (drop (from + 1) all) after
reads_next sign signs all after from read = subst (λ t. Reads signs t after) (drop-drop 1 from all) (reads_tail sign signs (drop from all) after read)

pub reads_from : (sign : Sign) (signs : List Sign) (all after : List Lexeme) (from : ℕ) → Begins sign (drop from all) → Reads signs (drop (from + 1) all) after
    → Reads (sign ∷ signs) (drop from all) after
reads_from sign signs all after from is read = reads_head sign signs (drop from all) after is (subst (λ t. Reads signs t after) (sym (drop-drop 1 from all)) read)

pub begins_nil : (sign : Sign) (from : ℕ) → Begins sign (drop from []) → ⊥
begins_nil sign from is = subst (λ t. Begins sign t) (drop_all from [] (omega arith)) is

pub begins_within : (sign : Sign) (all : List Lexeme) (from : ℕ) → Begins sign (drop from all) → from < length all
begins_within sign [] from is = absurd (begins_nil sign from is)
begins_within sign (lexeme ∷ all) zero is = omega arith
begins_within sign (lexeme ∷ all) (suc from) is = let below : from < length all = begins_within sign all from is in omega arith

-- a sign, and then something
module _ {X : Type 0} (A : X → Type 0) (f : X → List Sign) (Ends : List Lexeme → Type 0) (sign : Sign) (all : List Lexeme) (from : ℕ) where
  pub read_after : (x : X) (to : ℕ) → Begins sign (drop from all) → IsRead A f Ends all (from + 1) x to → IsRead A (λ y. sign ∷ f y) Ends all from x to
  read_after x to is read = record {
    order = let below : from + 1 ≤ to = read.order in omega arith;
    within = read.within;
    allowed = read.allowed;
    reads = reads_from sign (f x) all (drop to all) from is read.reads;
    only = λ other y after alike allowed reads ends. read.only other y after alike allowed (reads_next sign (f y) other after from reads) ends;
  }

  pub stops_after : (at : ℕ) → Begins sign (drop from all) → StopsAt A f Ends all (from + 1) at → StopsAt A (λ y. sign ∷ f y) Ends all from at
  stops_after at is stop = record {
    order = let below : from + 1 ≤ at = stop.order in omega arith;
    within = stop.within;
    none = λ other y after alike allowed reads ends. stop.none other y after alike allowed (reads_next sign (f y) other after from reads) ends;
    begun = stop.begun;
    allowed = stop.allowed;
    done = sign ∷ stop.done;
    left = stop.left;
    parts = ap (λ t. sign ∷ t) stop.parts;
    reads = reads_from sign stop.done all (drop at all) from is stop.reads;
  }

-- Nothing of the kind begins with what stands at a place, and one could be begun there.
pub stops_here : {X : Type 0} (A : X → Type 0) (f : X → List Sign) (Ends : List Lexeme → Type 0) (all : List Lexeme) (from : ℕ) (x : X) → A x → from ≤ length all
    → ((other : List Lexeme) (y : X) (after : List Lexeme) → AreAlike from other all → A y → Reads (f y) (drop from other) after → Ends after → ⊥)
    → StopsAt A f Ends all from from
stops_here A f Ends all from x allowed within none = record {
  order = omega arith;
  within = within;
  none = none;
  begun = x;
  allowed = allowed;
  done = [];
  left = f x;
  parts = refl;
  reads = refl;
}

-- One of several kinds: those that are written in a list alike up to the first lexeme are of this kind.
module _ {X Z : Type 0} (A : X → Type 0) (C : Z → Type 0) (f : X → List Sign) (h : Z → List Sign) (Ends More : List Lexeme → Type 0)
    (make : X → Z) (allow : (x : X) → A x → C (make x)) (same : (x : X) → h (make x) ≡ f x) (all : List Lexeme) (from : ℕ)
    (more : (after : List Lexeme) → More after → Ends after)
    (is : (other : List Lexeme) (z : Z) (after : List Lexeme) → AreAlike from other all → C z → Reads (h z) (drop from other) after → (x : X) × (make x ≡ z) × A x) where
  pub read_kind : (x : X) (to : ℕ) → IsRead A f Ends all from x to → IsRead C h More all from (make x) to
  read_kind x to read = record {
    order = read.order;
    within = read.within;
    allowed = allow x read.allowed;
    reads = subst (λ s. Reads s (drop from all) (drop to all)) (sym (same x)) read.reads;
    only = λ other z after alike allowed reads ends.
        let k = is other z after (alike_less from to other all read.order alike) allowed reads in
        let one = read.only other k.0 after alike k.2 (subst (λ s. Reads s (drop from other) after) (ap h (sym k.1) ∙ same k.0) reads) (more after ends) in
        (sym k.1 ∙ ap make one.0, one.1);
  }

  pub stops_kind : (at : ℕ) → StopsAt A f Ends all from at → StopsAt C h More all from at
  stops_kind at stop = record {
    order = stop.order;
    within = stop.within;
    none = λ other z after alike allowed reads ends.
        let k = is other z after (alike_less from at other all stop.order alike) allowed reads in
        stop.none other k.0 after alike k.2 (subst (λ s. Reads s (drop from other) after) (ap h (sym k.1) ∙ same k.0) reads) (more after ends);
    begun = make stop.begun;
    allowed = allow stop.begun stop.allowed;
    done = stop.done;
    left = stop.left;
    parts = same stop.begun ∙ stop.parts;
    reads = stop.reads;
  }

-- the lexeme of a number is the one that stands there
pub begins_at : (sign : Sign) (all : List Lexeme) (at : ℕ) (lexeme : Lexeme) → slice_get all at ≡ Some lexeme → Is sign lexeme → Begins sign (drop at all)
begins_at sign [] at lexeme found is = absurd (none_some found)
begins_at sign (first ∷ all) zero lexeme found is = subst (λ l. Is sign l) (sym (the_one first lexeme found)) is
begins_at sign (first ∷ all) (suc at) lexeme found is = begins_at sign all at lexeme found is

pub begins_is : (sign : Sign) (all : List Lexeme) (at : ℕ) (lexeme : Lexeme) → slice_get all at ≡ Some lexeme → Begins sign (drop at all) → Is sign lexeme
begins_is sign [] at lexeme found is = absurd (none_some found)
begins_is sign (first ∷ all) zero lexeme found is = subst (λ l. Is sign l) (the_one first lexeme found) is
begins_is sign (first ∷ all) (suc at) lexeme found is = begins_is sign all at lexeme found is

pub begins_none : (sign : Sign) (all : List Lexeme) (at : ℕ) → slice_get all at ≡ None → Begins sign (drop at all) → ⊥
begins_none sign [] at found is = begins_nil sign at is
begins_none sign (first ∷ all) zero found is = none_some (sym found)
begins_none sign (first ∷ all) (suc at) found is = begins_none sign all at found is

-- the list of the lexeme of a number
pub head_at : (all : List Lexeme) (at : ℕ) → take 1 (drop at all) ≡ option_to_list (slice_get all at)
head_at [] at = ap (take 1) (drop_all at [] (omega arith))
head_at (first ∷ all) zero = refl
head_at (first ∷ all) (suc at) = head_at all at
