-- A count that is too high is named with its place: by what each of the two tests found.
use Rattle.wear_leveling.specs.Commit.{commit_answer}
use Rattle.wear_leveling.proofs.admit_commit.Goals as goal

pub returns-in-Some : goal.returns-in-Some
unfolding commit_answer
returns-in-Some c = rw (← c.fits.ensures, c.if-not-fits.false, ← c.high_count.ensures, c.in-Some.is)
