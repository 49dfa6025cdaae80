-- What a port answers, and what it hands back.
use Rattle.std.specs.Prelude.{ℕ, ◌+◌, Result, Ok, Err, if◌then◌else◌}
use Rattle.be_port.specs.declared.letter.Letter as held
use Rattle.be_port.specs.declared.Posted.{Posted}
use Rattle.be_port.specs.declared.Posted.TheVariants as posted
use Rattle.be_port.specs.declared.fault.PostFault.{PostFault}
use Rattle.be_port.specs.declared.fault.PostFault.TheVariants as post
use Rattle.be_port.specs.declared.fault.NoticeFault.{NoticeFault}
use Rattle.be_port.specs.declared.fault.NoticeFault.TheVariants as notice
use Rattle.be_port.specs.Queues.{Queue, holds_notice}

-- the result of a post as its answer
abbrev pub posted_as : Result ℕ PostFault → Posted
posted_as (Ok number) = posted.Accepted number
posted_as (Err (post.BadPort letter)) = posted.BadPort
posted_as (Err (post.TooDeep letter)) = posted.TooDeep
posted_as (Err (post.WouldBlock len letter)) = posted.WouldBlock len

-- the letter that a refused post hands back
abbrev pub letter_in_post : PostFault → held.Letter
letter_in_post (post.BadPort letter) = letter
letter_in_post (post.TooDeep letter) = letter
letter_in_post (post.WouldBlock len letter) = letter

-- what comes of a notice
pub data Noticed : Type 0 where
  accepted : ℕ → Noticed
  bad_port : Noticed
  standing : Noticed

-- what a notice is answered: not where the port is closed, then not where one waits already
abbrev pub notice_answer : Queue → Noticed
notice_answer q =
    if q.closed then bad_port else if holds_notice q then standing else accepted (q.last + 1)

-- the result of a notice as its answer
abbrev pub noticed_as : Result ℕ NoticeFault → Noticed
noticed_as (Ok number) = accepted number
noticed_as (Err (notice.BadPort letter)) = bad_port
noticed_as (Err (notice.Standing letter)) = standing

abbrev pub letter_in_notice : NoticeFault → held.Letter
letter_in_notice (notice.BadPort letter) = letter
letter_in_notice (notice.Standing letter) = letter
