-- Live configurations of the language of threads: the cells T 1, threads 2, a thread 3 with k 4 and env 5, mem 6, and a
-- thread 7 with k 8 and env 9.
use Rattle.std.specs.Prelude.{ℕ, List, [], ◌∷◌, Some, None}
use Rattle.k_terms.specs.declared.value.Value.{Value}
use Rattle.k_terms.specs.declared.value.Content.{Content}
use Rattle.k_terms.specs.declared.value.Content.TheVariants.{Cells as NoContent, Seq as SeqContent, Map as MapContent}
use Rattle.live_config.specs.declared.cell.Cell.{Cell}
use Rattle.live_config.specs.declared.site.Site.{Site}
use Rattle.live_config.specs.Configuration.{Configuration}

abbrev pub top : ℕ → Content → Cell
top kind content = record { kind = kind; parent = None; content = content }

abbrev pub under : ℕ → ℕ → Content → Cell
under parent kind content = record { kind = kind; parent = Some (record { 0 = parent }); content = content }

-- a thread with its cells, by the three numbers
abbrev pub thread_cells : ℕ → ℕ → ℕ → List Value → List (ℕ × Cell)
thread_cells t k e items = (t, under 2 2 NoContent) ∷ (k, under t 3 (SeqContent items)) ∷ (e, under t 4 (MapContent [])) ∷ []

abbrev pub config : List Value → List Value → List (Value × Value) → Configuration
config first second entries = record {
  cells =
      (1, top 0 NoContent) ∷ (2, under 1 1 NoContent)
      ∷ (3, under 2 2 NoContent) ∷ (4, under 3 3 (SeqContent first)) ∷ (5, under 3 4 (MapContent []))
      ∷ (6, under 1 5 (MapContent entries))
      ∷ thread_cells 7 8 9 second;
}

abbrev pub site : ℕ → List ℕ → List Value → Site
site rule cells keys = record { rule = rule; cells = cells; keys = keys }

abbrev pub first_thread_in_memory : List ℕ
first_thread_in_memory = 1 ∷ 2 ∷ 3 ∷ 4 ∷ 6 ∷ []

abbrev pub second_thread_in_memory : List ℕ
second_thread_in_memory = 1 ∷ 2 ∷ 7 ∷ 8 ∷ 6 ∷ []
