use Rattle.be_command.proofs.reading.Reading.+rects.Given as goal

abbrev pub decreases-rects : goal.decreases-rects
decreases-rects l = l.most
