use Rattle.std.proofs.Common.{◌≡◌, ◌∷◌, [], ◌++◌}
use Rattle.be_facts.proofs.Lists.{on_ok_map}
use Rattle.be_looper.specs.Duties.{Hand}
use Rattle.be_message.specs.Messages.{Message}
use Rattle.be_script.specs.Script.{declared_by}
use Rattle.be_written.specs.Lines.{line_of}
use Rattle.be_written.specs.Takings.{runner_of, Tells}
use Rattle.be_written.specs.TraceText.{taken_words}
use Rattle.be_written.proofs.TakenLemmas.{taken_line}
use Rattle.be_written.proofs.taken.write_taken.Goals as goal

pub returns : goal.returns
returns c =
    let d = declared_by c.args.script.now in
    let who = runner_of c.args.runner in
    on_ok_map c.end_line.result (c.end_line.new.self ≡ c.write_said_fields.new.page ++ 10 ∷ [])
    ((hand : Hand Message) → Tells c.args.taken.now hand → c.end_line.new.self ≡ c.args.page.now ++ line_of (taken_words d who c.args.number hand))
    c.end_line.ensures
    (taken_line d who c.args.number c.from.result c.said_word.result c.handler_name.result.now c.route_name.result.now c.args.taken.now
    c.args.page.now c.text.new.self c.number_word.new.self c.write_sender.new.page c.number_word-2.new.self c.text-2.new.self c.code.new.self c.word.new.self c.word-2.new.self c.write_said_fields.new.page c.end_line.new.self
    c.from.ensures c.said_word.ensures c.handler_name.ensures c.route_name.ensures
    c.in_ok-text.ensures c.in_ok-number_word.ensures c.in_ok-write_sender.ensures c.in_ok-number_word-2.ensures c.in_ok-text-2.ensures c.in_ok-code.ensures c.in_ok-word.ensures c.in_ok-word-2.ensures c.in_ok-write_said_fields.ensures)
