use Rattle.std.proofs.Common.{rules, ◌≡◌, ◌+◌, ◌<◌, ◌++◌, ◌∷◌, [], ℕ, length, map, sym, ap, ◌∙◌, subst}
use Rattle.std.proofs.lemmas.List.{map-append, length-map}
use Rattle.circular_buffer.specs.Buffer.{keep_last}
use Rattle.be_command.specs.declared.Command.{Command}
use Rattle.be_link.specs.Queues.{numbered, IsBuffer}
use Rattle.be_link.proofs.Numbering.{is_buffer_with, kept_whole}
use Rattle.be_link.proofs.buffer.Buffer.put.Goals as goal

pub invariant_of-self : goal.invariant_of-self
invariant_of-self c =
    let old = c.self.inside.ring.items in
    let new : ℕ × Command = (c.self.inside.made + 1, c.args.command) in
    let cap = c.self.invariant.0 in
    let room : length old < 32 = search rules in
    let items = ap (λ b. b.items) c.push_back.ensures.items ∙ (ap (λ n. keep_last n (old ++ new ∷ [])) cap ∙ kept_whole 32 old new room) in
    let seen : map numbered c.push_back.new.self.items ≡ map numbered old ++ numbered new ∷ [] = ap (map numbered) items ∙ map-append numbered old (new ∷ []) in (
      ap (λ b. b.capacity) c.push_back.ensures.items ∙ cap,
      subst (λ cs. IsBuffer record { made = c.self.inside.made + 1; commands = cs }) (sym seen)
          (is_buffer_with record { made = c.self.inside.made; commands = map numbered old } c.args.command c.self.invariant.1 (subst (λ n. n < 32) (sym (length-map old numbered)) room)),
    )
