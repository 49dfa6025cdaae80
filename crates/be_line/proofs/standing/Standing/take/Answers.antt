use Rattle.std.proofs.Common.{◌||◌, cond, Option, Some, ap, sym, ◌∙◌}
use Rattle.std.proofs.lemmas.Map.Text.{btree_map_updates_str}
use Rattle.std.specs.BTreeMap.{get_by}
use Rattle.std.specs.Cmp.Lexicographic.{slice_cmp}
use Rattle.std.specs.List.{list_any}
use Rattle.std.specs.Ordering.{nat_cmp}
use Rattle.std.specs.Str.{bytes_eq}
use Rattle.be_message.specs.declared.kind.Kind.{Kind}
use Rattle.be_line.specs.Shaped.{seen_word}
use Rattle.be_line.specs.Standing.{kind_under}
use Rattle.be_line.specs.Words.{goes_with, is_copied, is_current, name_of}
use Rattle.be_line.proofs.StandingLemmas.{any_more, stands_then}
use Rattle.be_line.proofs.standing.Standing.take.Goals as goal

pub returns-clause-goes : goal.returns-clause-goes
returns-clause-goes c =
    c.goes_with-goes.ensures
    ∙ ap (λ (there : Option (Option Kind)). goes_with there c.args.self.now.has_current c.args.self.now.has_copy (seen_word c.args.word.now))
    (c.in_ok-there.ensures.old ∙ ap (kind_under c.args.self.now) c.name.ensures)

pub returns-clause-stands : goal.returns-clause-stands
returns-clause-stands c goes ws k =
    let word = seen_word c.args.word.now in
    let before = kind_under c.args.self.now in
    record {
      kinds = λ other.
          ap (λ kinds. get_by (λ name. slice_cmp nat_cmp other name.now) kinds) c.mark.ensures.kinds
          ∙ btree_map_updates_str c.name.result.now c.args.self.now.kinds c.insert.new.self _ c.in_ok-there.ensures.updates other
          ∙ ap (λ name. cond (bytes_eq name other) (Some c.sort.result) (before other)) c.name.ensures
          ∙ ap (λ sort. cond (bytes_eq (name_of word) other) (Some sort) (before other)) c.sort.ensures
          ∙ stands_then before ws word c.args.self.now.has_current c.args.self.now.has_copy k.kinds
          (sym (returns-clause-goes c) ∙ goes) other;
      current =
          c.mark.ensures.current
          ∙ ap (λ v. v || c.is_current.result) k.current
          ∙ ap (λ v. list_any is_current ws || v) c.is_current.ensures
          ∙ any_more is_current ws word;
      copies =
          c.mark.ensures.copies
          ∙ ap (λ v. v || c.is_copied.result) k.copies
          ∙ ap (λ v. list_any is_copied ws || v) c.is_copied.ensures
          ∙ any_more is_copied ws word;
    }
