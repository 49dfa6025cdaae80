use Rattle.std.specs.Fmt.{decimal}
use Rattle.be_summary.proofs.Lines.{line_written}
use Rattle.be_summary.proofs.counts.write_count.Goals as goal

pub returns : goal.returns
returns c =
    line_written c.args.text.now.items c.extend_from_slice.new.self.items c.push.new.self.items
    c.write_natural.new.out.items c.push-2.new.self.items c.args.word.now (decimal c.args.number)
    c.in_ok-extend_from_slice.ensures.items c.in_ok-push.ensures.items
    c.in_ok-write_natural.ensures c.in_ok-push-2.ensures.items
