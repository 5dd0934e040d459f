-- What the sorts have, in a map.
use Rattle.std.proofs.Common.{◌≡◌, ℕ, Bool, true, false, List, [], ◌∷◌, map, refl, sym, ap, ◌∙◌, subst, Option, Some, Vec, Global}
use Rattle.std.specs.Prelude.{if◌then◌else◌}
use Rattle.std.specs.Cmp.Lexicographic.{bytes_decides}
use Rattle.std.specs.HashMap.{HashMap, get_by}
use Rattle.std.specs.Map.{lookup}
use Rattle.indexmap.specs.IndexMap.{insert_entry}
use Rattle.production_reader.specs.Allowed.{same_text}
use Rattle.file_reader.specs.Files.{Context, had}
use Rattle.file_reader.proofs.Heads.{no_true}

abbrev pub Entries : Type 0
Entries = List (Vec ℕ Global × Bool)

abbrev pub context_of : Entries → Context
context_of entries = map (λ entry. (entry.0.items, entry.1)) entries

found_in : (entries : Entries) (sort : List ℕ) → lookup (λ k. same_text sort k.items) entries ≡ had (context_of entries) sort
found_in [] sort = refl
found_in (entry ∷ entries) sort = ap (λ t. if same_text sort entry.0.items then Some entry.1 else t) (found_in entries sort)

pub found : {S : Type 0} (m : HashMap (Vec ℕ Global) Bool S) (sort : List ℕ) → get_by (λ k. same_text sort k.items) m ≡ had (context_of m.entries) sort
found m sort = found_in m.entries sort

once : (b : Bool) (x y z : Option Bool) → (if b then x else z) ≡ (if b then x else (if b then y else z))
once true x y z = refl
once false x y z = refl

same_key : (one other : List ℕ) (x y z : Option Bool) → same_text one other ≡ true → (key : List ℕ)
    → (if same_text key other then x else z) ≡ (if same_text key one then x else (if same_text key other then y else z))
same_key one other x y z same key =
    let is : one ≡ other = (bytes_decides one other).0 same in
    subst (λ t. (if same_text key other then x else z) ≡ (if same_text key t then x else (if same_text key other then y else z))) (sym is) (once (same_text key other) x y z)

swap : (a b : Bool) (x y z : Option Bool) → (a ≡ true → b ≡ true → ⊥) → (if a then x else (if b then y else z)) ≡ (if b then y else (if a then x else z))
swap true true x y z apart = absurd (apart refl refl)
swap true false x y z apart = refl
swap false b x y z apart = refl

other_key : (one other key : List ℕ) → same_text one other ≡ false → same_text key other ≡ true → same_text key one ≡ true → ⊥
other_key one other key apart a b =
    let is : one ≡ other = sym ((bytes_decides key one).0 b) ∙ (bytes_decides key other).0 a in
    no_true (sym apart ∙ (bytes_decides one other).1 is)

inserted_by : (entry : Vec ℕ Global × Bool) (entries : Entries) (sort : Vec ℕ Global) (is_list : Bool) (key : List ℕ) (b : Bool) → same_text sort.items entry.0.items ≡ b
    → had (context_of (insert_entry (λ a b. same_text a.items b.items) entries sort is_list)) key ≡ (if same_text key sort.items then Some is_list else had (context_of entries) key)
    → had (context_of (if b then (entry.0, is_list) ∷ entries else entry ∷ insert_entry (λ a b. same_text a.items b.items) entries sort is_list)) key
    ≡ (if same_text key sort.items then Some is_list else had (context_of (entry ∷ entries)) key)
inserted_by entry entries sort is_list key true same later = same_key sort.items entry.0.items (Some is_list) (Some entry.1) (had (context_of entries) key) same key
inserted_by entry entries sort is_list key false same later =
    ap (λ t. if same_text key entry.0.items then Some entry.1 else t) later
    ∙ swap (same_text key entry.0.items) (same_text key sort.items) (Some entry.1) (Some is_list) (had (context_of entries) key) (other_key sort.items entry.0.items key same)

pub inserted : (entries : Entries) (sort : Vec ℕ Global) (is_list : Bool) (key : List ℕ)
    → had (context_of (insert_entry (λ a b. same_text a.items b.items) entries sort is_list)) key ≡ (if same_text key sort.items then Some is_list else had (context_of entries) key)
inserted [] sort is_list key = refl
inserted (entry ∷ entries) sort is_list key = inserted_by entry entries sort is_list key (same_text sort.items entry.0.items) refl (inserted entries sort is_list key)
