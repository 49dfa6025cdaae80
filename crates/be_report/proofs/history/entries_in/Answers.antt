use Rattle.std.proofs.Common.{◌≡◌, ◌+◌, ℕ, Bool, not, cond, List, [], ◌∷◌, ◌++◌, Ok, Err, Result, None, refl, sym, ap, ◌∙◌, arith, append-nil}
use Rattle.be_lex.specs.Lines.{lines_of}
use Rattle.be_machine.specs.declared.Entry.{Entry}
use Rattle.be_script.specs.Script.{declared_by}
use Rattle.be_report.specs.Entries.{entry_of}
use Rattle.be_report.specs.Lines.{words_between}
use Rattle.be_report.specs.Told.{entries_in}
use Rattle.be_report.proofs.CodeLemmas.{before_all, at_end, entry_goes_on, entry_breaks, breaks_unended, broken_history, cut_shorter}
use Rattle.be_report.proofs.history.entries_in.Goals as goal

abbrev ended : ℕ → Bool → Result (List Entry) ℕ
ended k b = cond b (Ok []) (Err (k + 1))

pub returns-then-begins_traces : goal.returns-then-begins_traces
returns-then-begins_traces c =
    let end = at_end (declared_by c.args.script.now) c.args.last c.loop-line.number c.loop-line.rest.now c.in-Some.line.now c.in-Some.behind.now c.in-Some.ensures c.if-last-number.true in
    let traces = sym c.begins_traces.ensures ∙ c.if-begins_traces.true in
    sym c.loop-line.invariant.0 ∙ ap (before_all c.loop-line.entries.items) (end ∙ ap (ended c.loop-line.number) traces) ∙ ap Ok (append-nil c.loop-line.entries.items)

pub returns-else-begins_traces : goal.returns-else-begins_traces
returns-else-begins_traces c =
    let end = at_end (declared_by c.args.script.now) c.args.last c.loop-line.number c.loop-line.rest.now c.in-Some.line.now c.in-Some.behind.now c.in-Some.ensures c.if-last-number.true in
    let traces = sym c.begins_traces.ensures ∙ c.if-begins_traces.false in
    rw c.bad_entry.ensures (sym c.loop-line.invariant.0 ∙ ap (before_all c.loop-line.entries.items) (end ∙ ap (ended c.loop-line.number) traces), refl)

pub returns-in-Err : goal.returns-in-Err
returns-in-Err c =
    let d = declared_by c.args.script.now in
    let line = c.in-Some.line.now in
    let breaks : entry_of d c.loop-line.number (words_between line) ≡ None → entries_in d c.args.last 1 (lines_of c.args.text.now) ≡ Err (c.loop-line.number + 1) = λ none.
    sym c.loop-line.invariant.0 ∙ ap (before_all c.loop-line.entries.items) (entry_breaks d c.args.last c.loop-line.number c.loop-line.rest.now line c.in-Some.behind.now c.in-Some.ensures c.if-last-number.false none) in
    rw c.fault_at.ensures (broken_history (entries_in d c.args.last 1 (lines_of c.args.text.now)) (c.loop-line.number + 1) (entry_of d c.loop-line.number (words_between line)) c.in-Err.fault breaks c.in-Err.ensures)

pub loop-line-preserved : goal.loop-line-preserved
loop-line-preserved c =
    let d = declared_by c.args.script.now in
    let rest = c.loop-line.rest.now in
    let line = c.in-Some.line.now in
    let behind = c.in-Some.behind.now in
    let goes_on = entry_goes_on d c.args.last c.loop-line.number rest line behind c.loop-line.entries.items c.in-Ok.entry c.in-Some.ensures c.if-last-number.false c.in-Ok.ensures in
    let pushed : c.push.new.self.items ≡ c.loop-line.entries.items ++ c.in-Ok.entry ∷ [] =
    c.push.ensures.items ∙ ap (λ (b : Bool). cond b (c.loop-line.entries.items ++ c.in-Ok.entry ∷ []) c.loop-line.entries.items) (c.is_err.ensures.negation ∙ ap not c.if-is_err.false) in
    let shorter = cut_shorter 10 rest line behind c.in-Some.ensures in
    let count = c.loop-line.invariant.1 in
    (ap (λ (es : List Entry). before_all es (entries_in d c.args.last (c.loop-line.number + 1) (lines_of behind))) pushed ∙ sym goes_on ∙ c.loop-line.invariant.0, omega arith)

pub returns : goal.returns
returns c =
    rw c.bad_entry-2.ensures
    (sym c.loop-line.invariant.0 ∙ ap (before_all c.loop-line.entries.items) (breaks_unended (declared_by c.args.script.now) c.args.last c.loop-line.number c.loop-line.rest.now c.in_default.ensures), refl)
