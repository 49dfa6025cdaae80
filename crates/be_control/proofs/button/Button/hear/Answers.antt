use Rattle.std.proofs.Common.{cond, sym, ap, ◌∙◌, subst}
use Rattle.be_control.specs.Buttons.{Button, Heard}
use Rattle.be_control.specs.Letters.{IsLetter}
use Rattle.be_control.specs.declared.button.Letter.TheVariants as letter
use Rattle.be_control.specs.declared.button.Pressed.TheVariants as pressed
use Rattle.be_control.proofs.Armed.{break_ends, of_none, of_release, other_stays, press_arms}
use Rattle.be_control.proofs.button.Button.hear.Goals as goal

pub returns-in-Press-clause-heard : goal.returns-in-Press-clause-heard
returns-in-Press-clause-heard c = λ before was.
    let h : Heard = record { own = c.args.own; message = c.args.message.now } in
    let told = subst (IsLetter c.self.inside.bounds h) c.in-Press.is c.letter_of.ensures in
    press_arms c.self.inside.bounds before h told

pub returns-in-Release-clause-heard : goal.returns-in-Release-clause-heard
returns-in-Release-clause-heard c = λ before was.
    let h : Heard = record { own = c.args.own; message = c.args.message.now } in
    let told = subst (IsLetter c.self.inside.bounds h) c.in-Release.is c.letter_of.ensures in
    break_ends c.self.inside.bounds before h told.0 told.2

pub returns-in-Release-clause-pressed : goal.returns-in-Release-clause-pressed
returns-in-Release-clause-pressed c = λ before was.
    let h : Heard = record { own = c.args.own; message = c.args.message.now } in
    let told = subst (λ b. IsLetter b h letter.Release)
    (ap (λ (b : Button). b.bounds) c.self.view_is)
    (subst (IsLetter c.self.inside.bounds h) c.in-Release.is c.letter_of.ensures) in
    c.released.ensures
    ∙ (ap (λ (b : Button). cond b.armed pressed.Invoked pressed.Idle) c.self.view_is
    ∙ sym (of_release c.args.self.now.bounds before h c.args.self.now.armed told.0 told.1
    (sym was)))

pub returns-in-Break-clause-heard : goal.returns-in-Break-clause-heard
returns-in-Break-clause-heard c = λ before was.
    let h : Heard = record { own = c.args.own; message = c.args.message.now } in
    let told = subst (IsLetter c.self.inside.bounds h) c.in-Break.is c.letter_of.ensures in
    break_ends c.self.inside.bounds before h told.0 told.2

pub returns-in-Break-clause-pressed : goal.returns-in-Break-clause-pressed
returns-in-Break-clause-pressed c = λ before was.
    let h : Heard = record { own = c.args.own; message = c.args.message.now } in
    let told = subst (λ b. IsLetter b h letter.Break) (ap (λ (b : Button). b.bounds) c.self.view_is)
    (subst (IsLetter c.self.inside.bounds h) c.in-Break.is c.letter_of.ensures) in
    sym (of_none c.args.self.now.bounds before h told.0 told.1)

pub returns-in-Other-clause-heard : goal.returns-in-Other-clause-heard
returns-in-Other-clause-heard c = λ before was.
    let h : Heard = record { own = c.args.own; message = c.args.message.now } in
    let told = subst (λ b. IsLetter b h letter.Other) (ap (λ (b : Button). b.bounds) c.self.view_is)
    (subst (IsLetter c.self.inside.bounds h) c.in-Other.is c.letter_of.ensures) in
    was ∙ other_stays c.args.self.now.bounds before h told.0 told.2

pub returns-in-Other-clause-pressed : goal.returns-in-Other-clause-pressed
returns-in-Other-clause-pressed c = λ before was.
    let h : Heard = record { own = c.args.own; message = c.args.message.now } in
    let told = subst (λ b. IsLetter b h letter.Other) (ap (λ (b : Button). b.bounds) c.self.view_is)
    (subst (IsLetter c.self.inside.bounds h) c.in-Other.is c.letter_of.ensures) in
    sym (of_none c.args.self.now.bounds before h told.0 told.1)
