-- What a script can say of a draft is all that a call for the next wish asks of it.
use Rattle.std.proofs.Common.{◌≡◌, Bool, true, not, ◌&&◌, List, [], ◌∷◌, length, refl}
use Rattle.std.specs.List.{list_all}
use Rattle.std.specs.Prelude.{nat_le}
use Rattle.std.proofs.lemmas.Bool.{and_parts, and_from}
use Rattle.be_message.specs.Names.{is_name}
use Rattle.be_actor.specs.Conditions.{keeps_fields}
use Rattle.be_actor.specs.Drafts.{DraftWords, Word, value, current, copied}
use Rattle.be_actor.specs.Limits.{is_what, is_reserved, is_word, all_go_together, is_draft}

in_a_handler : (has_message : Bool) (w : Word) → is_word has_message w ≡ true → is_word true w ≡ true
in_a_handler has_message (value name datum) h = h
in_a_handler has_message (current name) h = (and_parts has_message (is_name name) h).1
in_a_handler has_message (copied name) h = (and_parts has_message (is_name name) h).1

all_in_a_handler : (has_message : Bool) (ws : List Word) → list_all (is_word has_message) ws ≡ true → list_all (is_word true) ws ≡ true
all_in_a_handler has_message [] h = refl
all_in_a_handler has_message (w ∷ ws) h =
    let p = and_parts (is_word has_message w) (list_all (is_word has_message) ws) h in
    and_from (is_word true w) (list_all (is_word true) ws) (in_a_handler has_message w p.0) (all_in_a_handler has_message ws p.1)

pub draft_keeps_fields : (has_message : Bool) (draft : DraftWords) → is_draft has_message draft ≡ true → keeps_fields draft ≡ true
unfolding is_draft
draft_keeps_fields has_message draft h =
    let few = nat_le (length draft.words) 255 in
    let free = is_what draft.what && not (is_reserved draft.what) in
    let p = and_parts (free && few && list_all (is_word has_message) draft.words) (all_go_together draft.words) h in
    let q = and_parts (free && few) (list_all (is_word has_message) draft.words) p.0 in
    let r = and_parts free few q.0 in
    let words = all_in_a_handler has_message draft.words q.1 in
    and_from (few && list_all (is_word true) draft.words) (all_go_together draft.words) (and_from few (list_all (is_word true) draft.words) r.1 words) p.1
