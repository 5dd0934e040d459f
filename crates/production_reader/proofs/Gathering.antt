-- Lists that are read one thing after another, with what they mean.
use Rattle.std.proofs.Common.{◌≡◌, ℕ, ◌+◌, ◌≤◌, Bool, true, false, List, [], ◌∷◌, ◌++◌, length, drop, map, refl, sym, ap, ◌∙◌, subst}
use Rattle.production_reader.specs.Lexemes.{Lexeme, Sign}
use Rattle.production_reader.specs.Written.{separated}
use Rattle.production_reader.specs.Chains.{state, Several}
use Rattle.production_reader.specs.Reading.{IsRead, IsReadAs, Stops}
use Rattle.production_reader.specs.declared.stop.Stop.{Stop}
use Rattle.production_reader.specs.Heads.{heads, is_mark_of, Begin}
use Rattle.production_reader.proofs.Listing.{Pending, Listing, state_more, list_begins, list_read, list_stops, list_mark, list_ends, list_closed}

pub map_more : {X V : Type 0} (mean : X → V) (xs : List X) (x : X) → map mean (xs ++ x ∷ []) ≡ map mean xs ++ mean x ∷ []
map_more mean [] x = refl
map_more mean (y ∷ xs) x = ap (λ t. mean y ∷ t) (map_more mean xs x)

module _ {S X V : Type 0} (C : S → X → Type 0) (next : S → X → S) (h : X → List Sign) (byte : ℕ) (test : Lexeme → Bool) (Mid : List Lexeme → Type 0) (mean : X → V) (s : S) (all : List Lexeme) (from : ℕ) where
  -- things of these meanings were read, and a further one must follow
  pub record Awaits (now : S) (found : List V) (at : ℕ) : Type 0 where
    pub written : List X
    pub values : found ≡ map mean written
    pub is : now ≡ state next s written
    pub pending : Pending C next h byte test Mid s all from written at

  -- things of these meanings were read, and further ones may follow
  pub record Gathered (now : S) (found : List V) (at : ℕ) : Type 0 where
    pub written : List X
    pub values : found ≡ map mean written
    pub is : now ≡ state next s written
    pub listing : Listing C next h byte test Mid s all from written at

  pub gather_begins : from ≤ length all → Awaits s [] from
  gather_begins within = record { written = []; values = refl; is = refl; pending = list_begins C next h byte test Mid s all from within }

  module _ (apart : (ls : List Lexeme) → Begin test ls → heads (is_mark_of byte) ls ≡ false) (fits_mark : (ls : List Lexeme) → heads (is_mark_of byte) ls ≡ true → Mid ls)
      (fits_end : (ls : List Lexeme) → Begin test ls → Mid ls) where
    pub gather_read : (now later : S) (found : List V) (at : ℕ) → Awaits now found at → (v : V) (to : ℕ) → IsReadAs (C now) h Mid mean all at v to
        → ((x : X) → v ≡ mean x → later ≡ next now x) → Gathered later (found ++ v ∷ []) to
    gather_read now later found at before v to read follows = record {
      written = before.written ++ read.written ∷ [];
      values = ap (λ t. t ++ v ∷ []) before.values ∙ ap (λ t. map mean before.written ++ t ∷ []) read.means ∙ sym (map_more mean before.written read.written);
      is = follows read.written read.means ∙ ap (λ n. next n read.written) before.is ∙ sym (state_more next s before.written read.written);
      listing = list_read C next h byte test Mid s all from apart fits_mark fits_end before.written at before.pending read.written to
          (subst (λ n. IsRead (C n) h Mid all at read.written to) before.is read.read);
    }

    pub gather_stops : (now : S) (found : List V) (at : ℕ) → Awaits now found at → (stop : Stop) → Stops (C now) h Mid all at stop → Stops (Several C next s) (separated byte h) (Begin test) all from stop
    gather_stops now found at before stop none =
        list_stops C next h byte test Mid s all from apart fits_mark fits_end before.written at before.pending stop (subst (λ n. Stops (C n) h Mid all at stop) before.is none)

    pub gather_mark : (now : S) (found : List V) (at : ℕ) → Gathered now found at → heads (is_mark_of byte) (drop at all) ≡ true → Awaits now found (at + 1)
    gather_mark now found at before here = record {
      written = before.written;
      values = before.values;
      is = before.is;
      pending = list_mark C next h byte test Mid s all from apart fits_mark fits_end before.written at before.listing here;
    }

  pub gather_ends : (now : S) (found : List V) (at : ℕ) → Gathered now found at → heads (is_mark_of byte) (drop at all) ≡ false
      → IsReadAs (Several C next s) (separated byte h) (Begin test) (map mean) all from found at
  gather_ends now found at before none = record {
    written = before.written;
    read = list_ends C next h byte test Mid s all from before.written at before.listing none;
    means = before.values;
  }

  pub gather_closed : (now : S) (found : List V) (at : ℕ) → Gathered now found at → ((x : X) → C now x → ⊥)
      → IsReadAs (Several C next s) (separated byte h) (Begin test) (map mean) all from found at
  gather_closed now found at before none = record {
    written = before.written;
    read = list_closed C next h byte test Mid s all from before.written at before.listing (λ x allowed. none x (subst (λ n. C n x) (sym before.is) allowed));
    means = before.values;
  }
