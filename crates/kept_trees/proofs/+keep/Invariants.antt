use Rattle.kept_trees.proofs.+keep.Given as goal

abbrev pub decreases-keep : goal.decreases-keep
decreases-keep l = l.n
