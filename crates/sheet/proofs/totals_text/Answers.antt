use Rattle.std.proofs.Common.{append_assoc, rules}
use Rattle.text.proofs.Capped.{capped-capped}
use Rattle.sheet.proofs.Totals.{line-capped}
use Rattle.sheet.proofs.totals_text.Goals as goal

pub returns : goal.returns
returns c =
    let args = c.args in
    simp (c.byte-4.ensures, c.decimal.ensures, c.byte-3.ensures, c.decimal-given_up.ensures, c.byte-2.ensures, c.decimal-met.ensures, c.byte.ensures, c.decimal-offered.ensures, c.empty.ensures, capped-capped, append_assoc)
    (line-capped args.offers args.meetings args.withdrawn args.pending (search rules) (search rules))
