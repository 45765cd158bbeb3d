use Rattle.text.proofs.Text.+hex_up_to.Given as goal

abbrev pub decreases-hex_up_to : goal.decreases-hex_up_to
decreases-hex_up_to l = l.digits
