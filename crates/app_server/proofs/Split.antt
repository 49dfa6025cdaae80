-- Where the report begins in a text of a script and its report.
use Rattle.std.proofs.Common.{◌≡◌, ℕ, zero, suc, Bool, true, false, eqb, ◌+◌, ◌-◌, ◌<◌, ◌≤◌, ◌⊎◌}
use Rattle.std.proofs.Common.{List, [], ◌∷◌, ◌++◌, length, take, drop, refl, sym, ap, subst, ◌∙◌}
use Rattle.std.proofs.Common.{inl, inr, arith, cond}
use Rattle.std.specs.Prelude.{flat_map, not}
use Rattle.std.specs.List.{position_or_len, list_all}
use Rattle.std.proofs.lemmas.Bool.{and_parts, ne_eqb}
use Rattle.std.proofs.lemmas.List.{append_assoc, append-nil, length-append, take-append-drop}
use Rattle.std.proofs.lemmas.List.Concat.{flat_map-append}
use Rattle.be_lex.proofs.Cuts.{split_cut}
use Rattle.be_lex.proofs.LineLemmas.{lines_of-first, lines_of-last, lines_of-none, is_ten}
use Rattle.be_lex.specs.Lines.{Line, lines_of}
use Rattle.be_lex.proofs.LineLemmas.{is_line_end}
use Rattle.app_server.specs.Inputs.{begins_history, line_bytes}
use Rattle.app_server.specs.Inputs.{report_part, script_lines, script_part}
use Rattle.app_server.specs.Parts.{IsScriptLine, Stops}

abbrev pub joined : List Line → List ℕ
joined lines = flat_map line_bytes lines

module _ {X : Type 0} where
  front_taken : (front back : List X) → take (length front) (front ++ back) ≡ front
  front_taken [] back = refl
  front_taken (x ∷ front) back = ap (λ xs. x ∷ xs) (front_taken front back)

  front_dropped : (front back : List X) → drop (length front) (front ++ back) ≡ back
  front_dropped [] back = refl
  front_dropped (x ∷ front) back = front_dropped front back

  -- the first that passes stands behind those that don't
  first_place : (test : X → Bool) (front back : List X)
      → list_all (λ x. not (test x)) front ≡ true → position_or_len test back ≡ 0
      → position_or_len test (front ++ back) ≡ length front
  first_place test [] back none e = e
  first_place test (x ∷ front) back none e =
      let parts = and_parts (not (test x)) (list_all (λ x. not (test x)) front) none in
      rw (parts.0, first_place test front back parts.1 e) (omega arith)

-- ---- the lines of a text are the text

joined_within : (fuel : ℕ) (bytes : List ℕ) → length bytes ≤ fuel → joined (lines_of bytes) ≡ bytes
joined_within fuel [] le = ap joined (lines_of-none [] refl)
joined_within zero (b ∷ bytes) le = absurd (omega arith)
joined_within (suc fuel) (b ∷ bytes) le =
    let all = b ∷ bytes in
    let n : ℕ = position_or_len is_line_end all in
    let some : eqb (length all) 0 ≡ false = ne_eqb (length all) 0 (λ z. absurd (omega arith)) in
    elim (split_cut is_line_end all n refl) [
      | inl w ↦ ap joined (lines_of-last all n some refl w.0) ∙ append-nil (take n all) ∙ w.1
      | inr w ↦
          let x : ℕ = w.0 in
          let rest : List ℕ = w.1 in
          let cut : take n all ++ x ∷ rest ≡ all =
          ap (λ l. take n all ++ l) (sym w.2) ∙ take-append-drop n all in
          let ten : x ≡ 10 = is_ten x w.3 in
          let more : length (take n all) + suc (length rest) ≡ length all =
          sym (length-append (take n all) (x ∷ rest)) ∙ ap length cut in
          let again : joined (lines_of rest) ≡ rest =
          joined_within fuel rest (omega arith) in
          ap joined (lines_of-first all n refl x rest w.2)
          ∙ append_assoc (take n all) (10 ∷ []) (joined (lines_of rest))
          ∙ ap (λ l. take n all ++ 10 ∷ l) again
          ∙ ap (λ k. take n all ++ k ∷ rest) (sym ten) ∙ cut
    ]

pub joined_again : (bytes : List ℕ) → joined (lines_of bytes) ≡ bytes
joined_again bytes = joined_within (length bytes) bytes (omega arith)

-- ---- up to a line

-- the lines that were looked at, none of which begins the report, and the text behind them
pub record Passed (bytes rest : List ℕ) (before : ℕ) : Type 0 where
  pub seen : List Line
  pub lines : lines_of bytes ≡ seen ++ lines_of rest
  pub none : list_all (λ line. not (begins_history line)) seen ≡ true
  pub counted : before ≡ length seen
  pub text : joined seen ++ rest ≡ bytes
  pub few : before + length rest ≤ length bytes

pub none_passed : (bytes : List ℕ) → Passed bytes bytes 0
none_passed bytes = record {
  seen = [];
  lines = refl;
  none = refl;
  counted = refl;
  text = refl;
  few = omega arith;
}

stops_at_once : (lines : List Line) → Stops lines → position_or_len begins_history lines ≡ 0
stops_at_once [] stops = refl
stops_at_once (line ∷ lines) stops = rw stops refl

none_more : (line : Line) → begins_history line ≡ false → (lines : List Line)
    → list_all (λ x. not (begins_history x)) lines ≡ true
    → list_all (λ x. not (begins_history x)) (lines ++ line ∷ []) ≡ true
none_more line other [] all = rw other refl
none_more line other (x ∷ lines) all =
    let parts = and_parts (not (begins_history x))
    (list_all (λ x. not (begins_history x)) lines) all in
    rw (parts.0, none_more line other lines parts.1) refl

module _ (bytes rest : List ℕ) (before : ℕ) (passed : Passed bytes rest before) where
  -- one more doesn't begin the report
  pub one_more : (behind : List ℕ) → IsScriptLine rest behind → Passed bytes behind (before + 1)
  one_more behind is =
      let line : Line = is.line in
      let seen : List Line = passed.seen ++ line ∷ [] in
      let split : lines_of bytes ≡ seen ++ lines_of behind =
      passed.lines ∙ ap (λ l. passed.seen ++ l) is.next
      ∙ sym (append_assoc passed.seen (line ∷ []) (lines_of behind)) in
      let text : joined seen ++ behind ≡ bytes =
      ap (λ l. joined seen ++ l) (sym (joined_again behind))
      ∙ sym (flat_map-append line_bytes seen (lines_of behind))
      ∙ ap joined (sym split) ∙ joined_again bytes in
      let few : before + length rest ≤ length bytes = passed.few in
      let shorter : length behind < length rest = is.shorter in
      let counted : before ≡ length passed.seen = passed.counted in
      let many : length seen ≡ length passed.seen + 1 = length-append passed.seen (line ∷ []) in
      record {
        seen = seen;
        lines = split;
        none = none_more line is.other passed.seen passed.none;
        counted = omega arith;
        text = text;
        few = omega arith;
      }

  place : length bytes - length rest ≡ length (joined passed.seen)
  place =
      let long : length (joined passed.seen) + length rest ≡ length bytes =
      sym (length-append (joined passed.seen) rest) ∙ ap length passed.text in
      omega arith

  module _ (stops : Stops (lines_of rest)) where
    pub lines_before : before ≡ script_lines bytes
    lines_before =
        passed.counted
        ∙ sym (ap (position_or_len begins_history) passed.lines
        ∙ first_place begins_history passed.seen (lines_of rest) passed.none
        (stops_at_once (lines_of rest) stops))

    pub front_is : take (length bytes - length rest) bytes ≡ script_part bytes
    front_is =
        ap (λ l. take (length bytes - length rest) l) (sym passed.text)
        ∙ ap (λ k. take k (joined passed.seen ++ rest)) place
        ∙ front_taken (joined passed.seen) rest
        ∙ ap joined
        (sym (front_taken passed.seen (lines_of rest))
        ∙ ap (λ k. take k (passed.seen ++ lines_of rest)) (sym passed.counted ∙ lines_before)
        ∙ ap (take (script_lines bytes)) (sym passed.lines))

    pub rest_is : drop (length bytes - length rest) bytes ≡ report_part bytes
    rest_is =
        ap (λ l. drop (length bytes - length rest) l) (sym passed.text)
        ∙ ap (λ k. drop k (joined passed.seen ++ rest)) place
        ∙ front_dropped (joined passed.seen) rest ∙ sym (joined_again rest)
        ∙ ap joined
        (sym (front_dropped passed.seen (lines_of rest))
        ∙ ap (λ k. drop k (passed.seen ++ lines_of rest)) (sym passed.counted ∙ lines_before)
        ∙ ap (drop (script_lines bytes)) (sym passed.lines))
