-- What a firing reads and what it rewrites.
use Rattle.std.specs.Prelude.{◌≡◌, ℕ, Bool, true, not, ◌==◌, ◌&&◌, ◌||◌, List, [], ◌∷◌, ◌++◌, Option, Some, None, map, filter, reverse, cond, unwrap_or, is_some}
use Rattle.std.specs.Option.{option_and_then}
use Rattle.std.specs.List.{list_any}
use Rattle.std.specs.Ordering.{is_eq}
use Rattle.k_terms.specs.declared.value.Value.{Value}
use Rattle.k_terms.specs.Value.{value_cmp}
use Rattle.rule_terms.specs.declared.pattern.Pattern.{Pattern}
use Rattle.rule_terms.specs.declared.pattern.Body.{Body, Cells', Seq, Map, List as Listed}
use Rattle.rule_terms.specs.declared.rule.Rule.{Rule}
use Rattle.rule_terms.specs.Substitution.{Subst}
use Rattle.rule_terms.specs.Eval.{eval}
use Rattle.rule_terms.specs.Patterns.{same_rest, same_body, same_entry}
use Rattle.rule_terms.specs.Language.{Language}
use Rattle.live_config.specs.declared.site.Site.{Site}
use Rattle.live_config.specs.declared.place.End.{End}
use Rattle.live_config.specs.declared.place.End.TheVariants.{Whole, Key, Here, Number}
use Rattle.live_config.specs.declared.place.Place.{Place}
use Rattle.live_config.specs.declared.place.Marks.{Marks}
use Rattle.rule_terms.specs.Numbers.{has_number}
use Rattle.live_config.specs.Configuration.{Configuration, way_up, level_limit}
use Rattle.rule_terms.specs.Spots.{Spot, spots, has_mark, new_spots, rest_elsewhere}
use Rattle.live_config.specs.Firing.{Fires, right_number}

-- the path of a cell: the numbers from the root to it
abbrev pub path_of : Configuration → ℕ → List ℕ
path_of c n = reverse (way_up level_limit c n)

abbrev pub place : List ℕ → End → Place
place path end = record { path = path; end = end }

abbrev pub reading : List Place → Marks
reading places = record { reads = places; writes = [] }

abbrev pub writing : List Place → Marks
writing places = record { reads = []; writes = places }

abbrev pub no_marks : Marks
no_marks = record { reads = []; writes = [] }

abbrev pub together : Marks → Marks → Marks
together a b = record { reads = a.reads ++ b.reads; writes = a.writes ++ b.writes }

abbrev pub all_together : List Marks → Marks
all_together [] = no_marks
all_together (m ∷ ms) = together m (all_together ms)

-- a sequence or a list that is a rest alone
abbrev pub lone_rest : Body → Option ℕ
lone_rest (Seq [] rest) = rest
lone_rest (Listed [] rest []) = rest
lone_rest _ = None

-- the values of the keys of these entries
abbrev pub key_values : Subst → List (Pattern × Pattern) → List Value
key_values s [] = []
key_values s (e ∷ es) = elim (eval e.0 s) [ None ↦ key_values s es | Some v ↦ v ∷ key_values s es ]

abbrev pub has_key : List Value → Value → Bool
has_key keys v = list_any (λ k. is_eq (value_cmp k v)) keys

abbrev pub keys_at : List ℕ → List Value → List Place
keys_at path keys = map (λ k. place path (Key k)) keys

-- The marks of a map by its keys: those of entries that both sides have alike are read, and every other key of either side
-- is rewritten once, first those of the left; the map is read whole too where it has no rest, or one that is told elsewhere.
abbrev pub marks_by_key : Rule → Subst → List ℕ → ℕ → List (Pattern × Pattern) → List (Pattern × Pattern) → Option ℕ → Marks
marks_by_key r s path mark left right rest =
    let kept = filter (λ e. list_any (same_entry e) right) left in
    let changed = filter (λ e. not (list_any (same_entry e) right)) left in
    let added = filter (λ v. not (has_key (key_values s left) v)) (key_values s right) in
    record {
      reads = keys_at path (key_values s kept) ++ cond (not (is_some rest) || rest_elsewhere r mark rest) (place path Whole ∷ []) [];
      writes = keys_at path (key_values s changed ++ added);
    }

-- The marks of a content: a map with one rest on both sides, or none, by its keys; any other content is read whole where
-- both sides have it alike, and else rewritten whole. A rest alone that occurs nowhere else leaves no mark.
abbrev pub marks_of_content : Rule → Subst → List ℕ → ℕ → Body → Body → Marks
marks_of_content r s path mark (Cells' _ _ rest) _ = elim rest [ None ↦ reading (place path Whole ∷ []) | Some _ ↦ no_marks ]
marks_of_content r s path mark (Map left rest) (Map right rest') =
    cond (same_rest rest rest') (marks_by_key r s path mark left right rest) (writing (place path Whole ∷ []))
marks_of_content r s path mark left right =
    cond (same_body left right)
    (cond (is_some (lone_rest left) && not (rest_elsewhere r mark (lone_rest left))) no_marks (reading (place path Whole ∷ [])))
    (writing (place path Whole ∷ []))

abbrev pub body_of_mark : List Spot → ℕ → Option Body
body_of_mark [] mark = None
body_of_mark (p ∷ ps) mark = cond (p.mark == mark) (Some p.body) (body_of_mark ps mark)

-- the numbers of a cell and of all below it, rising
abbrev pub subtree : Configuration → ℕ → List ℕ
subtree c n = map (λ e. e.0) (filter (λ e. has_number (way_up level_limit c e.0) n) c.cells)

-- a cell of the left side whose mark is not on the right, and whose parent's is
abbrev pub is_removed_top : Rule → Spot → Bool
is_removed_top r p = not (has_mark (spots r.right) p.mark) && elim p.above [ None ↦ true | Some above ↦ has_mark (spots r.right) above ]

abbrev pub marks_of_removal : Configuration → Rule → Spot → ℕ → Marks
marks_of_removal c r p n =
    cond (is_removed_top r p) (writing (place (path_of c n) Whole ∷ map (λ m. place [] (Number m)) (subtree c n))) no_marks

-- the marks of a matched cell: it is read Here; where it is removed, its content is read as if both sides were alike
abbrev pub marks_of_cell : Configuration → Rule → Subst → Spot → ℕ → Marks
marks_of_cell c r s p n =
    together (reading (place (path_of c n) Here ∷ []))
    (together (marks_of_removal c r p n)
    (marks_of_content r s (path_of c n) p.mark p.body (unwrap_or (body_of_mark (spots r.right) p.mark) p.body)))

abbrev pub marks_of_cells : Configuration → Rule → Subst → List Spot → List ℕ → Marks
marks_of_cells c r s (p ∷ ps) (n ∷ ns) = together (marks_of_cell c r s p n) (marks_of_cells c r s ps ns)
marks_of_cells c r s _ _ = no_marks

-- a new cell whose parent is not new
abbrev pub is_new_top : Rule → Spot → Bool
is_new_top r p = elim p.above [ None ↦ true | Some above ↦ has_mark (spots r.left) above ]

-- the path of a new cell below a cell that stays
abbrev pub new_path : Configuration → (ℕ → Option ℕ) → Spot → List ℕ
new_path c number p =
    elim (option_and_then number p.above) [ None ↦ [] | Some n ↦ path_of c n ] ++ elim (number p.mark) [ None ↦ [] | Some n ↦ n ∷ [] ]

abbrev pub marks_of_births : Configuration → Rule → List ℕ → List ℕ → Marks
marks_of_births c r ns births =
    writing (map (λ p. place (new_path c (right_number r ns births) p) Whole) (filter (is_new_top r) (new_spots r))
    ++ map (λ b. place [] (Number b)) births)

-- all marks: cell by cell of the left side, and then the new cells and their numbers
abbrev pub footprint_of : Configuration → Site → List ℕ → Rule → Subst → Marks
footprint_of c site births r s =
    together (marks_of_cells c r s (spots r.left) site.cells) (marks_of_births c r site.cells births)

-- these are the marks of the firing at the site with these births
pub record IsFootprint (d : Language) (c : Configuration) (site : Site) (births : List ℕ) (marks : Marks) : Type 0 where
  pub rule : Rule
  pub subst : Subst
  pub after : Configuration
  pub fires : Fires d c site births rule subst after
  pub marks_are : marks ≡ footprint_of c site births rule subst
