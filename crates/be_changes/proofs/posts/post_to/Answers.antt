use Rattle.be_changes.proofs.PostTold.{has_posted_to, post_leads, post_port}
use Rattle.be_changes.proofs.posts.post_to.Goals as goal
use Rattle.be_script.specs.Script.{declared_by}

pub port_is_held-requires : goal.port_is_held-requires
port_is_held-requires c =
    post_port (declared_by c.args.script.now) c.args.held.now c.args.post c.requires.post c.in-Some.field-0 c.in-Some.is c.port_place-place.result c.port_place-place.ensures

pub posted_at-next-requires : goal.posted_at-next-requires
posted_at-next-requires c =
    post_leads (declared_by c.args.script.now) c.args.held.now c.args.post c.requires.post c.in-Some.field-0 c.in-Some.is c.port_place-place.result c.port_place-place.ensures
    c.port_is_held.ensures

pub returns-in-Some : goal.returns-in-Some
returns-in-Some c =
    has_posted_to (declared_by c.args.script.now) c.args.held.now c.args.post c.requires.post c.in-Some.field-0 c.in-Some.is c.port_place-place.result c.port_place-place.ensures
    c.port_to_change.result.now c.post-answer.new.self c.posted_at-next.result.value c.port_to_change.ensures.value c.posted_at-next.ensures c.post-answer.ensures.slice
