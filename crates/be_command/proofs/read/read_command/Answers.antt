use Rattle.std.proofs.Common.{◌≡◌, ℕ, List, Some, None, Err, ap, ◌∙◌, sym}
use Rattle.std.proofs.lemmas.Result.{err_from_is_err_and}
use Rattle.std.specs.Option.{option_and_then}
use Rattle.be_command.specs.Forms.{first_word_of}
use Rattle.be_command.specs.Places.{word_at, after_word}
use Rattle.be_command.specs.Progress.{Progress}
use Rattle.be_command.specs.Reading.{line_start, command_of}
use Rattle.be_command.proofs.ReadLemmas.{line_is_read, line_is_unknown, line_is_of_list}
use Rattle.be_command.proofs.read.read_command.Goals as goal

pub returns-in_default : goal.returns-in_default
returns-in_default c =
    line_is_unknown _ _ (ap (λ (text : List ℕ). option_and_then first_word_of (word_at (line_start text))) (sym c.of-words.ensures) ∙ sym c.first_word.ensures.word ∙ c.in_default.is)

pub returns-in-None : goal.returns-in-None
returns-in-None c =
    line_is_read c.args.names.now c.args.line.now c.in-Some.word c.behind_first-reading.result c.command.new.self c.in_ok-command.command None
    (ap (λ (text : List ℕ). option_and_then first_word_of (word_at (line_start text))) (sym c.of-words.ensures) ∙ sym c.in-Some.ensures.word)
    (ap (λ (text : List ℕ). after_word (line_start text)) (sym c.of-words.ensures) ∙ sym c.in-Some.ensures.after ∙ sym (ap (λ (p : Progress). p.at) c.behind_first-reading.ensures))
    (ap (λ (p : Progress). p.fault) c.behind_first-reading.ensures)
    c.in_ok-command.ensures c.in-None.ensures

pub returns-in-Some-finish : goal.returns-in-Some-finish
returns-in-Some-finish c =
    let read : command_of c.args.names.now c.args.line.now ≡ Err c.in-Some-finish.field-0 =
    line_is_read c.args.names.now c.args.line.now c.in-Some.word c.behind_first-reading.result c.command.new.self c.in_ok-command.command (Some c.in-Some-finish.field-0)
    (ap (λ (text : List ℕ). option_and_then first_word_of (word_at (line_start text))) (sym c.of-words.ensures) ∙ sym c.in-Some.ensures.word)
    (ap (λ (text : List ℕ). after_word (line_start text)) (sym c.of-words.ensures) ∙ sym c.in-Some.ensures.after ∙ sym (ap (λ (p : Progress). p.at) c.behind_first-reading.ensures))
    (ap (λ (p : Progress). p.fault) c.behind_first-reading.ensures)
    c.in_ok-command.ensures c.in-Some-finish.ensures in
    (cc)

pub returns-in_err-command : goal.returns-in_err-command
returns-in_err-command c =
    let p = err_from_is_err_and c.from_residual.result c.from_residual.ensures.1 in
    rw (p.1, p.2)
    (line_is_of_list c.args.line.now c.in-Some.word
    (ap (λ (text : List ℕ). option_and_then first_word_of (word_at (line_start text))) (sym c.of-words.ensures) ∙ sym c.in-Some.ensures.word)
    c.in_err-command.ensures)
