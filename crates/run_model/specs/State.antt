-- A process that runs: what is loaded, its threads, and how many steps are done.
use Rattle.std.specs.Prelude.{ℕ, ◌+◌, ◌%◌, Bool, List, find, map, length, get_or, Option, None, is_some}
use Rattle.std.specs.List.{list_any, range_with_len}
use Rattle.load_state.specs.Loaded.{Loaded}
use Rattle.run_model.specs.declared.thread.Thread.{Thread}

pub record State : Type 0 where
  pub loaded : Loaded
  -- by number, each with its place
  pub threads : List (Option Thread)
  pub steps : ℕ

abbrev pub thread_at : List (Option Thread) → ℕ → Option Thread
thread_at threads t = get_or threads t None

abbrev pub lives : List (Option Thread) → ℕ → Bool
lives threads t = is_some (thread_at threads t)

abbrev pub some_lives : List (Option Thread) → Bool
some_lives threads = list_any is_some threads

-- the first live thread from a number on, in cyclic order
abbrev pub live_from : List (Option Thread) → ℕ → Option ℕ
live_from threads t = find (lives threads) (map (λ i. (t + i) % length threads) (range_with_len 0 (length threads)))
