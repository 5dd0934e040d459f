-- Live configurations without their numbers, ways up, paths and the order of sites, by computation.
use Rattle.std.proofs.Common.{◌≡◌, ◌==◌, false, [], ◌∷◌, refl}
use Rattle.std.specs.Prelude.{Some}
use Rattle.std.specs.declared.cmp.Ordering.TheVariants.{Less, Equal, Greater}
use Rattle.k_terms.specs.declared.value.Content.TheVariants.{Cells as NoContent, Seq as SeqContent, Map as MapContent}
use Rattle.rule_terms.proofs.ExamplesPar.{language, sorts, name_x, name_y, number, get_x, front}
use Rattle.rule_terms.proofs.ExamplesSteps.{thread, state, x_is}
use Rattle.live_config.specs.Configuration.{Configuration, below, root_of, plain, way_up, level_limit}
use Rattle.live_config.specs.Fits.{Fits}
use Rattle.live_config.specs.Sites.{site_cmp}
use Rattle.live_config.specs.Footprint.{path_of, subtree}
use Rattle.live_config.specs.Open.{open_live}
use Rattle.live_config.proofs.Fitting.{is_fitting, fits, same_sort}
use Rattle.live_config.proofs.ExamplesPar.{top, under, config, site, first_thread_in_memory, second_thread_in_memory}

abbrev two_readers : Configuration
two_readers = config (front get_x) (front get_x) (x_is 1)

without_numbers : plain two_readers ≡ state (thread (front get_x) ∷ thread (front get_x) ∷ []) (x_is 1)
unfolding open_live
without_numbers = refl

root : root_of two_readers ≡ Some 1
unfolding open_live
root = refl

threads_below : below two_readers 2 ≡ 3 ∷ 7 ∷ []
unfolding open_live
threads_below = refl

way_up_from_env : way_up level_limit two_readers 9 ≡ 9 ∷ 7 ∷ 2 ∷ 1 ∷ []
unfolding open_live
way_up_from_env = refl

path_to_env : path_of two_readers 9 ≡ 1 ∷ 2 ∷ 7 ∷ 9 ∷ []
unfolding open_live
path_to_env = refl

no_path : path_of two_readers 10 ≡ []
unfolding open_live
no_path = refl

cells_of_thread : subtree two_readers 7 ≡ 7 ∷ 8 ∷ 9 ∷ []
unfolding open_live
cells_of_thread = refl

-- ---- sites: by rule, then by cells, then by keys
by_rule : site_cmp (site 2 (9 ∷ []) []) (site 3 (1 ∷ []) []) ≡ Less
unfolding open_live
by_rule = refl

by_cells : site_cmp (site 3 second_thread_in_memory (name_x ∷ [])) (site 3 first_thread_in_memory (name_y ∷ [])) ≡ Greater
unfolding open_live
by_cells = refl

by_length_of_cells : site_cmp (site 3 (1 ∷ 2 ∷ []) []) (site 3 (1 ∷ 2 ∷ 3 ∷ []) []) ≡ Less
unfolding open_live
by_length_of_cells = refl

by_keys : site_cmp (site 3 first_thread_in_memory (name_y ∷ [])) (site 3 first_thread_in_memory (name_x ∷ name_x ∷ [])) ≡ Greater
unfolding open_live
by_keys = refl

same_site : site_cmp (site 3 first_thread_in_memory (name_x ∷ [])) (site 3 first_thread_in_memory (name_x ∷ [])) ≡ Equal
unfolding open_live
same_site = refl

-- ---- fitting

two_readers_fit : Fits language two_readers
unfolding open_live
two_readers_fit = fits (λ a b. a == b) language two_readers (same_sort sorts) refl

-- a cell whose parent is not there, and one in a cell of another declared cell
parent_is_gone : is_fitting (λ a b. a == b) language (record { cells = (1, top 0 NoContent) ∷ (4, under 3 3 (SeqContent [])) ∷ [] }) ≡ false
unfolding open_live
parent_is_gone = refl

in_another_cell : is_fitting (λ a b. a == b) language (record { cells = (1, top 0 NoContent) ∷ (4, under 1 3 (SeqContent [])) ∷ [] }) ≡ false
unfolding open_live
in_another_cell = refl

two_roots : is_fitting (λ a b. a == b) language (record { cells = (1, top 0 NoContent) ∷ (2, top 0 NoContent) ∷ [] }) ≡ false
unfolding open_live
two_roots = refl

-- two cells that lie in each other
no_way_up : is_fitting (λ a b. a == b) language (record { cells = (1, top 0 NoContent) ∷ (2, under 3 1 NoContent) ∷ (3, under 2 2 NoContent) ∷ [] }) ≡ false
unfolding open_live
no_way_up = refl

content_of_another_kind : is_fitting (λ a b. a == b) language (record { cells = (1, top 0 NoContent) ∷ (6, under 1 5 (SeqContent [])) ∷ [] }) ≡ false
unfolding open_live
content_of_another_kind = refl

keys_out_of_order : is_fitting (λ a b. a == b) language (record { cells = (1, top 0 NoContent) ∷ (6, under 1 5 (MapContent ((name_y, number 1) ∷ (name_x, number 1) ∷ []))) ∷ [] }) ≡ false
unfolding open_live
keys_out_of_order = refl
