-- The laws of the modules of a text.
use Rattle.std.proofs.Common.{◌≡◌, ℕ, ◌-◌, ◌<◌, false, List, [], ◌∷◌, length, refl, sym, ap, subst, ◌∙◌, arith}
use Rattle.std.specs.Prelude.{slice_get, unwrap_or}
use Rattle.std.specs.List.{flat_map}
use Rattle.std.proofs.lemmas.Bool.{false≢true}
use Rattle.std.proofs.lemmas.List.{length-map}
use Rattle.k_lexer.specs.declared.token.Token.{Token}
use Rattle.import_order.specs.Imports.{HasNoCycle}
use Rattle.import_order.proofs.Closures.{one_closure}
use Rattle.production_reader.specs.Lexemes.{lexemes}
use Rattle.production_reader.specs.Allowed.{is_empty}
use Rattle.file_reader.specs.Written.{Module, signs_of_modules, text_of_name}
use Rattle.file_reader.specs.Files.{AreOfFile, names_of}
use Rattle.file_reader.specs.Meaning.{imports_by_module, imports_of}
use Rattle.file_reader.specs.declared.sentence.Sentence.{Sentence}
use Rattle.module_reader.specs.Modules.{Imported, IsOrdered, IsModules, AreClosureOf}
use Rattle.module_reader.specs.Faults.{IsExpected, place_of}
use Rattle.module_reader.proofs.Stopping.{one_stop}
use Rattle.module_reader.proofs.Graphs.{ordered}
use Rattle.module_reader.proofs.Outcomes.{sentences_long}

pub one_place : (text : List ℕ) (tokens : List Token) (one other : ℕ) → IsExpected text tokens one → IsExpected text tokens other → one ≡ other
one_place text tokens one other f g =
    f.place ∙ ap (place_of text tokens) (one_stop AreOfFile signs_of_modules (lexemes text tokens) f.token g.token f.stops g.stops) ∙ sym g.place

pub not_both : (text : List ℕ) (tokens : List Token) (modules : Imported) (at : ℕ) → IsModules text tokens modules → IsExpected text tokens at → ⊥
not_both text tokens modules at m f = f.stops.none (lexemes text tokens) m.modules [] refl m.file.0 m.file.1 refl

some_of : (modules : List Module) → is_empty modules ≡ false → 0 < length (names_of modules)
some_of [] none = absurd (false≢true (sym none))
some_of (one ∷ modules) some = omega arith

pub are_in_order : (text : List ℕ) (tokens : List Token) (modules : Imported) → IsModules text tokens modules → IsOrdered modules
are_in_order text tokens value m =
    let names = names_of m.modules in
    let imports = imports_by_module m.modules in
    let long : length names ≡ length m.modules = length-map m.modules (λ one. text_of_name one.name) in
    let whole = ordered names imports value.graph (m.found, m.graph) value.sentences (some_of m.modules m.file.0.0)
    (length-map m.modules (λ one. imports_of one.sentences) ∙ sym long)
    (ap length m.sentences ∙ sentences_long tokens 0 m.modules ∙ sym long)
    (subst HasNoCycle (sym m.graph) m.acyclic) in
    record { some = whole.some; same = whole.same; within = whole.within; acyclic = whole.acyclic }

pub one_list : (modules : Imported) (one other : List Sentence) → AreClosureOf modules one → AreClosureOf modules other → one ≡ other
one_list modules one other f g =
    f.are
    ∙ ap (flat_map (λ m. unwrap_or (slice_get modules.sentences m) [])) (one_closure modules.graph (length modules.graph - 1) f.order g.order f.closure g.closure)
    ∙ sym g.are
