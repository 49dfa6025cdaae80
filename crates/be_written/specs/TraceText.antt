-- The text of the traces, as the report has it (this project's own).
use Rattle.std.specs.Prelude.{ℕ, List, [], ◌∷◌, ◌++◌, flat_map, codes}
use Rattle.std.specs.Fmt.{decimal, signed_decimal}
use Rattle.std.specs.List.{enumerate_from}
use Rattle.be_geom.specs.declared.rect.Rect.{Rect}
use Rattle.be_handler.specs.declared.Route.{Route}
use Rattle.be_handler.specs.declared.Route.TheVariants.{Skipped, Handler, Unknown}
use Rattle.be_lex.specs.Codes.{code_text}
use Rattle.be_looper.specs.Duties.{Hand}
use Rattle.be_message.specs.declared.target.Target.{Target}
use Rattle.be_message.specs.Messages.{Message, all_fields}
use Rattle.be_port.specs.declared.Sender.{Sender}
use Rattle.be_port.specs.declared.Sender.TheVariants as sender
use Rattle.be_script.specs.Script.{Declared}
use Rattle.be_machine.specs.Activities.{Runner, app, looper}
use Rattle.be_machine.specs.declared.Entry.{Entry}
use Rattle.be_machine.specs.Traces.{Trace, noted, got, took, listed, replied, traces_of}
use Rattle.be_written.specs.MessageText.{message_text, fields_text}
use Rattle.be_written.specs.Lines.{line_of}
use Rattle.be_written.specs.Names.{window_names, window_name, app_names, app_name, view_name}
use Rattle.be_written.specs.Names.{target_name, app_actor, looper_actor, twin_actor}

-- ---- a letter that was taken

abbrev pub sender_name : Declared → Sender → List ℕ
sender_name d sender.Input = codes "input"
sender_name d (sender.App m) = app_actor (app_name d m)
sender_name d (sender.Looper w) = looper_actor (window_name d w)
sender_name d (sender.Twin w) = twin_actor (window_name d w)

-- a handler of a looper's window; an application has no handlers
abbrev pub handler_name : Declared → Runner → Target → List ℕ
handler_name d (looper w) target = target_name d w target
handler_name d (app m) target = []

-- who handles the letter; `-` where it wasn't understood, `/` where a filter skipped it
abbrev pub route_name : Declared → Runner → Route → List ℕ
route_name d who (Handler target) = handler_name d who target
route_name d who Unknown = codes "-"
route_name d who Skipped = codes "/"

-- its number, sender, hop, word, target and handler; its fields stand behind them
abbrev pub taken_words : Declared → Runner → ℕ → Hand Message → List (List ℕ)
taken_words d who n hand =
    codes "take"
    ∷ decimal n
    ∷ sender_name d hand.letter.sender
    ∷ decimal hand.letter.hop
    ∷ code_text hand.letter.body.what
    ∷ handler_name d who hand.letter.target
    ∷ (route_name d who hand.route ++ fields_text (all_fields hand.letter.body.fields))
    ∷ []

-- ---- lines

abbrev pub listed_name : Declared → Runner → ℕ → List ℕ
listed_name d (looper w) v = view_name d w v
listed_name d (app m) v = []

abbrev pub edge_words : Rect → List (List ℕ)
edge_words r =
    signed_decimal r.left ∷ signed_decimal r.top ∷ signed_decimal r.right
    ∷ signed_decimal r.bottom ∷ []

abbrev pub trace_words : Declared → Runner → Trace → List (List ℕ)
trace_words d who (noted word) = codes "note" ∷ word ∷ []
trace_words d who (got message) = codes "got" ∷ message_text message ∷ []
trace_words d who (took n hand) = taken_words d who n hand
trace_words d who (listed v r) = codes "update" ∷ listed_name d who v ∷ edge_words r
trace_words d who (replied message) = codes "reply" ∷ message_text message ∷ []

-- the lines of what one of them noted
abbrev pub noted_text : Declared → Runner → List Trace → List ℕ
noted_text d who traces = flat_map (λ t. line_of (trace_words d who t)) traces

-- the same of a history, under its kind and its name
abbrev pub runner_text : Declared → List Entry → List ℕ → Runner → List ℕ → List ℕ
runner_text d h kind who name =
    line_of (kind ∷ name ∷ []) ++ noted_text d who (traces_of d who h)

-- all applications, and all loopers
unfoldable pub apps_text : Declared → List Entry → List ℕ
apps_text d h =
    flat_map (λ p. runner_text d h (codes "app") (app p.0) p.1) (enumerate_from 0 (app_names d))

unfoldable pub loopers_text : Declared → List Entry → List ℕ
loopers_text d h =
    flat_map (λ p. runner_text d h (codes "loop") (looper p.0) p.1)
    (enumerate_from 0 (window_names d))

unfoldable pub traces_text : Declared → List Entry → List ℕ
traces_text d h = line_of (codes "traces" ∷ []) ++ apps_text d h ++ loopers_text d h
