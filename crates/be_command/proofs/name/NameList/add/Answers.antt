use Rattle.std.proofs.Common.{arith, subst, length, ◌≡◌, ◌<◌, ◌++◌, ◌∷◌, [], None}
use Rattle.be_command.specs.Names.{AreNames, name_fault}
use Rattle.be_command.proofs.NameLemmas.{names-append, has_room}
use Rattle.be_command.proofs.name.NameList.add.Goals as goal

pub invariant_of-self-2 : goal.invariant_of-self-2
invariant_of-self-2 c =
    let due : name_fault c.args.most c.self.inside.names.items c.args.name.now ≡ None = (cc) in
    let items : c.self.inside.names.items ++ c.args.name.now ∷ [] ≡ c.push.new.self.items = (cc (c.in_ok-push.ensures.items, c.in_ok-of.ensures)) in
    let room : length c.self.inside.names.items < c.args.most = has_room _ _ _ due in
    (subst AreNames items (names-append c.args.most c.self.inside.names.items c.args.name.now c.self.invariant.0 due), omega (arith, c.in_ok-push.ensures.len))
