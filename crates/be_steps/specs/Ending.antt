-- What the end of a message tells.
use Rattle.std.specs.Prelude.{◌≡◌, ℕ, List, Option, Some, None, option_map}
use Rattle.be_handler.specs.declared.Route.{Route}
use Rattle.be_handler.specs.declared.Route.TheVariants.{Skipped, Handler, Unknown}
use Rattle.be_hall.specs.Hands.{part_at}
use Rattle.be_machine.specs.Touched as part
use Rattle.be_message.specs.Words.{no_reply_word, not_understood_word}
use Rattle.be_parts.specs.Kept.{Kept}
use Rattle.be_parts.specs.Loopers.{hand_of}
use Rattle.be_parts.specs.declared.part.Part.{Part}
use Rattle.be_parts.specs.declared.part.Part.TheVariants as kinds
use Rattle.be_rules.specs.Places.{place_of}
use Rattle.be_rules.specs.Slices.{Slice}
use Rattle.be_script.specs.Script.{Declared}

-- not understood where no handler has a body for the message, else no reply
abbrev pub end_word : Option Route → ℕ
end_word (Some Unknown) = not_understood_word
end_word (Some Skipped) = no_reply_word
end_word (Some (Handler target)) = no_reply_word
end_word None = no_reply_word

-- where the message in hand went
abbrev pub route_in : Slice → Option Route
route_in slice = option_map (λ hand. hand.route) (hand_of slice)

-- the word at the end of the message in the hand of window w's looper
abbrev pub IsEndWord : Declared → List (ℕ × Part) → ℕ → ℕ → Type 0
IsEndWord d parts w word =
    (k : Kept) → part_at parts (place_of d (part.looper w)) ≡ Some (kinds.Looper k)
    → word ≡ end_word (route_in k.slice)
