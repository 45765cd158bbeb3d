use Rattle.text.proofs.Text.+decimal_up_to.Given as goal

abbrev pub decreases-decimal_up_to : goal.decreases-decimal_up_to
decreases-decimal_up_to l = l.k
