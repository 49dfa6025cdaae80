use Rattle.std.proofs.Common.{ap, ◌∙◌, sym}
use Rattle.be_lex.specs.Words.{words_of}
use Rattle.be_line.specs.FirstWords.{misplaced, seat_of}
use Rattle.be_line.specs.declared.statement.Statement.{Statement}
use Rattle.be_line.specs.declared.statement.Statement.TheVariants as statement
use Rattle.be_reader.specs.Forms.{form_of}
use Rattle.be_reader.specs.LineDeeds.{line_at}
use Rattle.be_reader.specs.Progress.{Progress}
use Rattle.be_said.specs.SoFar.{site_of}
use Rattle.be_reader.proofs.CommandLemmas.{command_deed, has_window}
use Rattle.be_reader.proofs.DeedLemmas.{deed_here, deed_so, is_deed, reads_end}
use Rattle.be_reader.proofs.deeds.read_deed.Goals as goal

pub returns-in-Screen : goal.returns-in-Screen
returns-in-Screen c =
    deed_here c.args.said.now c.args.statement statement.Screen c.behind_first-line.result (line_at (words_of c.args.words) c.args.text.now) c.screen.result c.in-Screen.is c.behind_first-line.ensures (c.screen.ensures c.args.said.now)

pub returns-in-Key : goal.returns-in-Key
returns-in-Key c =
    deed_here c.args.said.now c.args.statement statement.Key c.behind_first-line.result (line_at (words_of c.args.words) c.args.text.now) c.key.result c.in-Key.is c.behind_first-line.ensures (c.key.ensures c.args.said.now)

pub returns-in-Note : goal.returns-in-Note
returns-in-Note c =
    deed_here c.args.said.now c.args.statement statement.Note c.behind_first-line.result (line_at (words_of c.args.words) c.args.text.now) c.note.result c.in-Note.is c.behind_first-line.ensures (c.note.ensures c.args.said.now)

pub returns-in-End : goal.returns-in-End
unfolding form_of
returns-in-End c =
    deed_here c.args.said.now c.args.statement statement.End c.behind_first-line.result (line_at (words_of c.args.words) c.args.text.now) c.unless_faulty.result c.in-End.is c.behind_first-line.ensures
    (is_deed c.args.said.now statement.End c.behind_first-line.result tt _ c.unless_faulty.result (ap (λ (p : Progress). p.reason) c.behind_first-line.ensures)
    (reads_end c.args.said.now c.behind_first-line.result) c.unless_faulty.ensures)

pub returns-in-Unlock : goal.returns-in-Unlock
unfolding form_of
returns-in-Unlock c =
    deed_here c.args.said.now c.args.statement statement.Unlock c.behind_first-line.result (line_at (words_of c.args.words) c.args.text.now) c.unless_faulty-in-Unlock.result c.in-Unlock.is c.behind_first-line.ensures
    (is_deed c.args.said.now statement.Unlock c.behind_first-line.result tt _ c.unless_faulty-in-Unlock.result (ap (λ (p : Progress). p.reason) c.behind_first-line.ensures)
    (reads_end c.args.said.now c.behind_first-line.result) c.unless_faulty-in-Unlock.ensures)

pub returns-in-Flush : goal.returns-in-Flush
unfolding form_of
returns-in-Flush c =
    deed_here c.args.said.now c.args.statement statement.Flush c.behind_first-line.result (line_at (words_of c.args.words) c.args.text.now) c.unless_faulty-in-Flush.result c.in-Flush.is c.behind_first-line.ensures
    (is_deed c.args.said.now statement.Flush c.behind_first-line.result tt _ c.unless_faulty-in-Flush.result (ap (λ (p : Progress). p.reason) c.behind_first-line.ensures)
    (reads_end c.args.said.now c.behind_first-line.result) c.unless_faulty-in-Flush.ensures)

pub returns-in-Sync : goal.returns-in-Sync
unfolding form_of
returns-in-Sync c =
    deed_here c.args.said.now c.args.statement statement.Sync c.behind_first-line.result (line_at (words_of c.args.words) c.args.text.now) c.unless_faulty-in-Sync.result c.in-Sync.is c.behind_first-line.ensures
    (is_deed c.args.said.now statement.Sync c.behind_first-line.result tt _ c.unless_faulty-in-Sync.result (ap (λ (p : Progress). p.reason) c.behind_first-line.ensures)
    (reads_end c.args.said.now c.behind_first-line.result) c.unless_faulty-in-Sync.ensures)

pub command-requires : goal.command-requires
command-requires c =
    has_window c.args.said.now c.in-Command.field-0
    (ap (λ (s : Statement). misplaced (site_of c.args.said.now) (seat_of s)) (sym c.in-Command.is) ∙ c.requires)

pub returns-in-Command : goal.returns-in-Command
returns-in-Command c =
    deed_so c.args.said.now c.args.statement (statement.Command c.in-Command.field-0) (line_at (words_of c.args.words) c.args.text.now) c.command.result c.in-Command.is
    (command_deed c.args.said.now c.in-Command.field-0 (line_at (words_of c.args.words) c.args.text.now) _ c.command.ensures)
