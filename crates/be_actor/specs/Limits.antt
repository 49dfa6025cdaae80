-- Which drafts of messages can be written in a script (limits are this project's own).
use Rattle.std.specs.Prelude.{ℕ, ◌/◌, ◌%◌, ◌==◌, Bool, true, false, not, ◌&&◌, ◌||◌, nat_le, List}
use Rattle.std.specs.Prelude.{[], ◌∷◌, length}
use Rattle.std.specs.Char.{is_ascii_digit, is_ascii_lowercase}
use Rattle.std.specs.List.{list_all}
use Rattle.std.specs.Str.{bytes_eq}
use Rattle.be_message.specs.Fields.{is_allowed}
use Rattle.be_message.specs.Kinds.{is_kind}
use Rattle.be_message.specs.Messages.{Datum, bool, int, text, point, rect, message}
use Rattle.be_message.specs.Names.{is_name}
use Rattle.be_message.specs.Sound.{kind_of}
use Rattle.be_message.specs.Words.{update_notice, no_reply_word, not_understood_word}
use Rattle.be_actor.specs.Drafts.{DraftWords, Word, value, current, copied}

-- the words of messages that no script sends: an update's, and those that stand for no reply
abbrev pub is_reserved : ℕ → Bool
is_reserved what = what == update_notice || what == no_reply_word || what == not_understood_word

-- a letter, a digit or the low line
abbrev pub is_what_byte : ℕ → Bool
is_what_byte b = is_ascii_lowercase b || (nat_le 65 b && nat_le b 90) || is_ascii_digit b || b == 95

-- a word that a script can spell: four of these, the first the highest byte
abbrev pub is_what : ℕ → Bool
is_what n =
    is_what_byte (n / 16777216) && is_what_byte (n / 65536 % 256) && is_what_byte (n / 256 % 256)
    && is_what_byte (n % 256)

-- a value that a line can spell: any but a message, and a text without spaces
abbrev pub is_spelt : Datum → Bool
is_spelt (bool b) = true
is_spelt (int z) = true
is_spelt (text t) = is_allowed (text t) && list_all (λ b. nat_le 33 b) t
is_spelt (point p) = true
is_spelt (rect r) = true
is_spelt (message what fs) = false

-- a word with a field's name; the current message is there in the body of a handler alone
abbrev pub is_word : Bool → Word → Bool
is_word has_message (value name datum) = is_name name && is_spelt datum
is_word has_message (current name) = has_message && is_name name
is_word has_message (copied name) = has_message && is_name name

-- Two words may stand in one line: values under one name have one type; a name that is copied or
-- has the current message stands once; the current message stands once, and not beside a copy.
abbrev pub go_together : Word → Word → Bool
go_together (value a x) (value b y) = not (bytes_eq a b) || is_kind (kind_of x) (kind_of y)
go_together (value a x) (current b) = not (bytes_eq a b)
go_together (value a x) (copied b) = not (bytes_eq a b)
go_together (current a) (value b y) = not (bytes_eq a b)
go_together (current a) (current b) = false
go_together (current a) (copied b) = false
go_together (copied a) (value b y) = not (bytes_eq a b)
go_together (copied a) (current b) = false
go_together (copied a) (copied b) = not (bytes_eq a b)

-- so may any two of them
abbrev pub all_go_together : List Word → Bool
all_go_together [] = true
all_go_together (w ∷ ws) = list_all (go_together w) ws && all_go_together ws

-- a draft of at most 255 words, whose message has none of the reserved words
unfoldable pub is_draft : Bool → DraftWords → Bool
is_draft has_message draft =
    is_what draft.what
    && not (is_reserved draft.what)
    && nat_le (length draft.words) 255
    && list_all (is_word has_message) draft.words
    && all_go_together draft.words
