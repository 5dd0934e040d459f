-- Pieces of printed text.
use Rattle.std.specs.Prelude.{ℕ, ◌==◌, Bool, cond, List, [], ◌∷◌, ◌++◌, codes}
use Rattle.std.specs.List.{flat_map}
use Rattle.std.specs.Fmt.{decimal}

-- a byte of a text within quotes: `"` and `\` after a `\`, LF as `\n` and TAB as `\t`
abbrev pub escaped : ℕ → List ℕ
escaped byte =
    cond (byte == 34) (92 ∷ 34 ∷ []) (cond (byte == 92) (92 ∷ 92 ∷ []) (cond (byte == 10) (92 ∷ 110 ∷ []) (cond (byte == 9) (92 ∷ 116 ∷ []) (byte ∷ []))))

abbrev pub quoted : List ℕ → List ℕ
quoted bytes = (34 ∷ []) ++ flat_map escaped bytes ++ (34 ∷ [])

-- each text after the separator
abbrev pub each_after : List ℕ → List (List ℕ) → List ℕ
each_after separator texts = flat_map (λ text. separator ++ text) texts

-- the texts with the separator between
abbrev pub joined_by : List ℕ → List (List ℕ) → List ℕ
joined_by separator [] = []
joined_by separator (text ∷ texts) = text ++ each_after separator texts

-- the texts with the separator between, or another text where there are none
abbrev pub joined_or : List ℕ → List ℕ → List (List ℕ) → List ℕ
joined_or nothing separator [] = nothing
joined_or nothing separator (text ∷ texts) = text ++ each_after separator texts

abbrev pub bool_text : Bool → List ℕ
bool_text truth = cond truth (codes "true") (codes "false")

abbrev pub in_parentheses : List ℕ → List ℕ
in_parentheses text = codes "(" ++ text ++ codes ")"

-- an item of a list
abbrev pub list_item : List ℕ → List ℕ
list_item text = codes "ListItem(" ++ text ++ codes ")"

-- an entry of a map
abbrev pub map_entry : List ℕ → List ℕ → List ℕ
map_entry key value = key ++ codes " |-> " ++ value

-- a production applied to arguments, between two marks
abbrev pub application_text : List ℕ → List ℕ → List (List ℕ) → List ℕ → List ℕ
application_text label opening arguments closing = label ++ opening ++ joined_by (codes ",") arguments ++ closing

-- a production with a hole at this place, and the other arguments
abbrev pub freezer_text : List ℕ → ℕ → List (List ℕ) → List ℕ
freezer_text label place arguments = codes "#freeze(" ++ label ++ codes "," ++ decimal place ++ each_after (codes ",") arguments ++ codes ")"
