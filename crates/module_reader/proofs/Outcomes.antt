-- What follows from what was read, and from why nothing was.
use Rattle.std.proofs.Common.{◌≡◌, ◌⊎◌, inl, inr, ℕ, suc, ◌+◌, ◌<◌, List, [], ◌∷◌, length, slice_get, Some, Result, Ok, Err, IfOk, IfErr, MatchResult, refl, sym, ap, subst, ◌∙◌, ⊎_elim}
use Rattle.std.specs.Prelude.{unwrap_or}
use Rattle.std.specs.List.{flat_map}
use Rattle.std.proofs.lemmas.Bool.{cases_order}
use Rattle.std.proofs.lemmas.List.{length-map}
use Rattle.k_lexer.specs.declared.token.Token.{Token}
use Rattle.import_order.specs.Imports.{HasNoCycle}
use Rattle.production_reader.specs.Lexemes.{lexemes}
use Rattle.file_reader.specs.Written.{Module, signs_of_module, signs_of_modules, text_of_name}
use Rattle.file_reader.specs.Files.{IsFile, AreOfFile, names_of}
use Rattle.file_reader.specs.Meaning.{imports_by_module, graph_of, sentences_by_module}
use Rattle.file_reader.specs.Reads.{IsFileRead, IsFileStop}
use Rattle.file_reader.specs.declared.file.FileModules.{FileModules}
use Rattle.file_reader.specs.declared.file.FileStop.{FileStop}
use Rattle.file_reader.specs.declared.file.FileStop.TheVariants as stop
use Rattle.module_reader.specs.Modules.{Imported, IsModules, AreFound}
use Rattle.module_reader.specs.Faults.{IsFault, IsMissing, IsCycle, fault_by, place_of, first_missing}
use Rattle.module_reader.specs.Joining.{IsJoined, IsRefused, IsFirstCycle, graph_by}
use Rattle.module_reader.specs.declared.fault.ModuleFault.{ModuleFault}
use Rattle.module_reader.specs.declared.fault.ModuleFault.TheVariants.{Expected, NoModule, ImportCycle, TwoModules, Memory}
use Rattle.module_reader.proofs.Missing.{found_or_missing}
use Rattle.module_reader.proofs.Stopping.{one_stop}

unwrapped : (x y : List ℕ) → Some x ≡ Some y → x ≡ y
unwrapped x y e = ap (λ o. unwrap_or o x) e

-- the first module that imports itself is one
same_cycle : (names graph : List (List ℕ)) (one other : List ℕ) → IsFirstCycle names graph one → IsFirstCycle names graph other → one ≡ other
same_cycle names graph one other f g =
    let same : f.number ≡ g.number =
    ⊎_elim
    (λ (e : f.number ≡ g.number). e)
    (λ (differ : (f.number < g.number) ⊎ (g.number < f.number)).
    absurd (⊎_elim (λ (l : f.number < g.number). g.first f.number l f.cycle) (λ (l : g.number < f.number). f.first g.number l g.cycle) differ))
    (cases_order f.number g.number) in
    unwrapped one other (sym f.is ∙ ap (λ n. slice_get names n) same ∙ g.is)

pub sentences_long : (tokens : List Token) (at : ℕ) (modules : List Module) → length (sentences_by_module tokens at modules) ≡ length modules
sentences_long tokens at [] = refl
sentences_long tokens at (one ∷ modules) = ap suc (sentences_long tokens (at + length (signs_of_module one)) modules)

module _ (text : List ℕ) (tokens : List Token) where
  -- ---- where no file was read

  pub stop_fault : (s : FileStop) → IsFileStop (lexemes text tokens) s → (fault_by text tokens s ≡ Memory) ⊎ IsFault text tokens (fault_by text tokens s)
  stop_fault (stop.Expected at) is = inr (record { token = at; stops = is.stops; place = refl; once = is.once })
  stop_fault (stop.TwoModules name) is = inr is.twice
  stop_fault stop.Memory is = inl refl

  pub stop_exact : (s : FileStop) → IsFileStop (lexemes text tokens) s → (value : Imported) → IsModules text tokens value → fault_by text tokens s ≡ Memory
  stop_exact (stop.Expected at) is value m = absurd (is.stops.none (lexemes text tokens) m.modules [] refl m.file.0 m.file.1 refl)
  stop_exact (stop.TwoModules name) is value m = absurd (is.alone m.modules m.file m.different)
  stop_exact stop.Memory is value m = refl

  expected_alone : (at : ℕ) (fault : ModuleFault) → IsFileStop (lexemes text tokens) (stop.Expected at) → IsFault text tokens fault → Expected (place_of text tokens at) ≡ fault
  expected_alone at (Expected place) is f =
      ap Expected (ap (place_of text tokens) (one_stop AreOfFile signs_of_modules (lexemes text tokens) at f.token is.stops f.stops) ∙ sym f.place)
  expected_alone at (TwoModules name) is f = absurd (is.once name f)
  expected_alone at (NoModule name) is f = absurd (is.stops.none (lexemes text tokens) f.modules [] refl f.file.0 f.file.1 refl)
  expected_alone at (ImportCycle name) is f = absurd (is.stops.none (lexemes text tokens) f.modules [] refl f.file.0 f.file.1 refl)
  expected_alone at Memory is f = absurd f

  twice_alone : (name : List ℕ) (fault : ModuleFault) → IsFileStop (lexemes text tokens) (stop.TwoModules name) → IsFault text tokens fault → TwoModules name ≡ fault
  twice_alone name (Expected place) is f = absurd (f.once name is.twice)
  twice_alone name (TwoModules other) is f = ap TwoModules (sym (is.only other f))
  twice_alone name (NoModule other) is f = absurd (is.alone f.modules f.file f.different)
  twice_alone name (ImportCycle other) is f = absurd (is.alone f.modules f.file f.different)
  twice_alone name Memory is f = absurd f

  pub stop_exact_fault : (s : FileStop) → IsFileStop (lexemes text tokens) s → (fault : ModuleFault) → IsFault text tokens fault
      → (fault_by text tokens s ≡ Memory) ⊎ (fault_by text tokens s ≡ fault)
  stop_exact_fault (stop.Expected at) is fault f = inr (expected_alone at fault is f)
  stop_exact_fault (stop.TwoModules name) is fault f = inr (twice_alone name fault is f)
  stop_exact_fault stop.Memory is fault f = inl refl

  -- ---- where a file was read

  module _ (file : FileModules) (r : IsFileRead tokens (lexemes text tokens) file) where
    by_modules : (P : List (List ℕ) → List (List (List ℕ)) → Type 0) → P file.names file.imports → P (names_of r.modules) (imports_by_module r.modules)
    by_modules P p = subst (λ ns. P ns (imports_by_module r.modules)) r.names (subst (λ is. P file.names is) r.imports p)

    joined_is : (value : Imported) → IsJoined file value → IsModules text tokens value
    joined_is value j = record {
      modules = r.modules;
      file = r.file;
      different = r.different;
      found = by_modules AreFound j.found;
      acyclic = by_modules (λ ns is. HasNoCycle (graph_by ns is)) j.acyclic;
      sentences = j.sentences ∙ r.sentences;
      graph = by_modules (λ ns is. value.graph ≡ graph_by ns is) j.graph;
    }

    refused_is : (fault : ModuleFault) → IsRefused (names_of r.modules) (imports_by_module r.modules) fault → (fault ≡ Memory) ⊎ IsFault text tokens fault
    refused_is (NoModule name) is = inr (record { modules = r.modules; file = r.file; different = r.different; first = is })
    refused_is (ImportCycle name) is = inr (record {
      modules = r.modules;
      file = r.file;
      different = r.different;
      found = is.0;
      number = is.1.number;
      cycle = is.1.cycle;
      first = is.1.first;
      is = is.1.is;
    })
    refused_is Memory is = inl refl
    refused_is (Expected at) is = absurd is
    refused_is (TwoModules name) is = absurd is

    -- the modules of the text are these
    joined_alone : (one other : Imported) → IsModules text tokens one → IsModules text tokens other → one ≡ other
    joined_alone one other f g =
        let same : f.modules ≡ g.modules = r.only f.modules f.file ∙ sym (r.only g.modules g.file) in
        let sentences : one.sentences ≡ other.sentences = f.sentences ∙ ap (sentences_by_module tokens 0) same ∙ sym g.sentences in
        let graph : one.graph ≡ other.graph = f.graph ∙ ap graph_of same ∙ sym g.graph in
        λ i. record { sentences = sentences i; graph = graph i }

    not_missing : (modules : List Module) → IsFile (lexemes text tokens) modules → AreFound (names_of modules) (imports_by_module modules) → (name : List ℕ) → IsMissing text tokens name → ⊥
    not_missing modules is found name f =
        let same : modules ≡ f.modules = r.only modules is ∙ sym (r.only f.modules f.file) in
        found_or_missing (names_of f.modules) (imports_by_module f.modules) name (subst (λ ms. AreFound (names_of ms) (imports_by_module ms)) same found) f.first

    fault_not_modules : (fault : ModuleFault) → IsFault text tokens fault → (value : Imported) → IsModules text tokens value → ⊥
    fault_not_modules (Expected at) f value m = f.stops.none (lexemes text tokens) r.modules [] refl r.file.0 r.file.1 refl
    fault_not_modules (TwoModules name) f value m = r.once name f
    fault_not_modules (NoModule name) f value m = not_missing m.modules m.file m.found name f
    fault_not_modules (ImportCycle name) f value m =
        let same : m.modules ≡ f.modules = r.only m.modules m.file ∙ sym (r.only f.modules f.file) in
        subst (λ ms. HasNoCycle (graph_of ms)) same m.acyclic f.number f.cycle
    fault_not_modules Memory f value m = f

    first_of : (name : List ℕ) (f : IsCycle text tokens name) → IsFirstCycle (names_of r.modules) (graph_of r.modules) name
    first_of name f =
        subst (λ ms. IsFirstCycle (names_of ms) (graph_of ms) name) (r.only f.modules f.file) (record { number = f.number; cycle = f.cycle; first = f.first; is = f.is })

    missing_alone : (name : List ℕ) (fault : ModuleFault) → IsMissing text tokens name → IsFault text tokens fault → NoModule name ≡ fault
    missing_alone name (NoModule other) f g =
        let same : f.modules ≡ g.modules = r.only f.modules f.file ∙ sym (r.only g.modules g.file) in
        let first : first_missing (names_of g.modules) (flat_map (λ names. names) (imports_by_module g.modules)) ≡ Some name =
        subst (λ ms. first_missing (names_of ms) (flat_map (λ names. names) (imports_by_module ms)) ≡ Some name) same f.first in
        ap NoModule (unwrapped name other (sym first ∙ g.first))
    missing_alone name (ImportCycle other) f g = absurd (not_missing g.modules g.file g.found name f)
    missing_alone name (Expected at) f g = absurd (g.stops.none (lexemes text tokens) r.modules [] refl r.file.0 r.file.1 refl)
    missing_alone name (TwoModules other) f g = absurd (r.once other g)
    missing_alone name Memory f g = absurd g

    cycle_alone : (name : List ℕ) (fault : ModuleFault) → IsCycle text tokens name → IsFault text tokens fault → ImportCycle name ≡ fault
    cycle_alone name (ImportCycle other) f g = ap ImportCycle (same_cycle (names_of r.modules) (graph_of r.modules) name other (first_of name f) (first_of other g))
    cycle_alone name (NoModule other) f g = absurd (not_missing f.modules f.file f.found other g)
    cycle_alone name (Expected at) f g = absurd (g.stops.none (lexemes text tokens) r.modules [] refl r.file.0 r.file.1 refl)
    cycle_alone name (TwoModules other) f g = absurd (r.once other g)
    cycle_alone name Memory f g = absurd g

    fault_alone : (one other : ModuleFault) → IsFault text tokens one → IsFault text tokens other → one ≡ other
    fault_alone (NoModule name) other f g = missing_alone name other f g
    fault_alone (ImportCycle name) other f g = cycle_alone name other f g
    fault_alone (Expected at) other f g = absurd (f.stops.none (lexemes text tokens) r.modules [] refl r.file.0 r.file.1 refl)
    fault_alone (TwoModules name) other f g = absurd (r.once name f)
    fault_alone Memory other f g = absurd f

    pub sentences_length : length file.sentences ≡ length file.names
    sentences_length = ap length r.sentences ∙ sentences_long tokens 0 r.modules ∙ sym (length-map r.modules (λ one. text_of_name one.name)) ∙ ap length (sym r.names)

    refused_fault : (fault : ModuleFault) → IsRefused file.names file.imports fault → (fault ≡ Memory) ⊎ IsFault text tokens fault
    refused_fault fault is = refused_is fault (by_modules (λ ns im. IsRefused ns im fault) is)

    pub read_ok : (result : Result Imported ModuleFault) → MatchResult result (IsJoined file) (IsRefused file.names file.imports) → IfOk result (IsModules text tokens)
    read_ok (Ok value) is = joined_is value is
    read_ok (Err fault) is = tt

    pub read_fault : (result : Result Imported ModuleFault) → MatchResult result (IsJoined file) (IsRefused file.names file.imports)
        → IfErr result (λ fault. (fault ≡ Memory) ⊎ IsFault text tokens fault)
    read_fault (Ok value) is = tt
    read_fault (Err fault) is = refused_fault fault is

    pub read_exact : (result : Result Imported ModuleFault) → MatchResult result (IsJoined file) (IsRefused file.names file.imports)
        → (modules : Imported) → IsModules text tokens modules → MatchResult result (λ it. it ≡ modules) (λ fault. fault ≡ Memory)
    read_exact (Ok value) is modules m = joined_alone value modules (joined_is value is) m
    read_exact (Err fault) is modules m =
        ⊎_elim (λ (e : fault ≡ Memory). e) (λ (f : IsFault text tokens fault). absurd (fault_not_modules fault f modules m)) (refused_fault fault is)

    pub read_exact_fault : (result : Result Imported ModuleFault) → MatchResult result (IsJoined file) (IsRefused file.names file.imports)
        → (fault : ModuleFault) → IsFault text tokens fault → MatchResult result (λ it. ⊥) (λ other. (other ≡ Memory) ⊎ (other ≡ fault))
    read_exact_fault (Ok value) is fault f = fault_not_modules fault f value (joined_is value is)
    read_exact_fault (Err other) is fault f =
        ⊎_elim (λ (e : other ≡ Memory). inl e) (λ (g : IsFault text tokens other). inr (fault_alone other fault g f)) (refused_fault other is)
