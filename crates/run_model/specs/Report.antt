-- The report of a run: a line for each event. What the lines say is this project's own.
use Rattle.std.specs.Prelude.{ℕ, List, [], ◌++◌, codes, Option, Result, Ok, Err}
use Rattle.std.specs.List.{flat_map}
use Rattle.std.specs.Option.{option_map_or}
use Rattle.elf_model.specs.declared.func.Func.{Func}
use Rattle.fd_base.specs.Fields.{word_field, decimal_field, hex_field, name_field, digits_field}
use Rattle.fd_base.specs.Texts.{shown}
use Rattle.run_model.specs.declared.event.Event.{Event}
use Rattle.run_model.specs.declared.event.Event.TheVariants as event
use Rattle.run_model.specs.declared.event.Stop.{Stop}
use Rattle.run_model.specs.declared.event.Stop.TheVariants as stop

-- ---- fields

-- a link address of a module
abbrev pub func_fields : Func → List ℕ
func_fields f = decimal_field f.module ++ hex_field f.value

abbrev pub function_fields : Option Func → List ℕ
function_fields f = option_map_or func_fields f (codes " none")

abbrev pub refused_fields : ℕ → List ℕ
refused_fields code = codes " no" ++ decimal_field code

-- what a service answers, or the code of its refusal
abbrev pub answer_fields : {X : Type 0} → (X → List ℕ) → Result X ℕ → List ℕ
answer_fields field (Ok x) = codes " ok" ++ field x
answer_fields field (Err code) = refused_fields code

abbrev pub no_field : Unit {0} → List ℕ
no_field u = []

-- ---- lines

-- the word of an event of a thread, the number of steps done, and the thread
abbrev pub thread_fields : List ℕ → ℕ → ℕ → List ℕ
thread_fields word step thread = word ++ decimal_field step ++ decimal_field thread

abbrev pub stop_fields : ℕ → ℕ → List ℕ → List ℕ
stop_fields step thread word = thread_fields (codes "stop") step thread ++ word_field word

unfoldable pub stop_text : ℕ → ℕ → Stop → List ℕ
stop_text step thread (stop.Stray addr) = stop_fields step thread (codes "stray") ++ hex_field addr
stop_text step thread (stop.Fault addr) = stop_fields step thread (codes "fault") ++ hex_field addr
stop_text step thread (stop.Undefined word) = stop_fields step thread (codes "undefined") ++ hex_field word
stop_text step thread (stop.Unaligned addr) = stop_fields step thread (codes "unaligned") ++ hex_field addr
stop_text step thread (stop.Service number) = stop_fields step thread (codes "service") ++ decimal_field number
stop_text step thread stop.Resolve = stop_fields step thread (codes "resolve")
stop_text step thread stop.Limit = codes "limit" ++ decimal_field step

unfoldable pub event_text : Event → List ℕ
event_text (event.Load m name) = codes "load" ++ decimal_field m ++ word_field (shown name)
event_text (event.Skipped m) = codes "skipped init" ++ decimal_field m
event_text (event.Bind step m slot f) = codes "bind" ++ decimal_field step ++ decimal_field m ++ decimal_field slot ++ function_fields f
event_text (event.Out step t bytes) = thread_fields (codes "out") step t ++ digits_field bytes
event_text (event.Open step t name answer) = thread_fields (codes "open") step t ++ name_field name ++ answer_fields decimal_field answer
event_text (event.Sym step t handle name answer) =
    thread_fields (codes "sym") step t ++ decimal_field handle ++ name_field name ++ answer_fields hex_field answer
event_text (event.Close step t handle answer) = thread_fields (codes "close") step t ++ decimal_field handle ++ answer_fields no_field answer
event_text (event.Gone m) = codes "gone" ++ decimal_field m
event_text (event.Start step t answer) = thread_fields (codes "start") step t ++ answer_fields decimal_field answer
event_text (event.Arrive step t f) = thread_fields (codes "arrive") step t ++ func_fields f
event_text (event.Enter step t m slot) = thread_fields (codes "enter") step t ++ decimal_field m ++ decimal_field slot
event_text (event.Done step t value) = thread_fields (codes "done") step t ++ decimal_field value
event_text (event.Exit step t value) = thread_fields (codes "exit") step t ++ decimal_field value
event_text (event.End step) = codes "end" ++ decimal_field step
event_text (event.Stopped step t why) = stop_text step t why

abbrev pub line_of : Event → List ℕ
line_of e = event_text e ++ codes "\n"

abbrev pub report_of : List Event → List ℕ
report_of events = flat_map line_of events
