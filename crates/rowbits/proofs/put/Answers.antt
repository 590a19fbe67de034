-- `rowbits::put` meets its contract: the byte stays a byte. Assumes nothing.
use borrow.Author.Rules.{rules}
use Rattle.rowbits.specs.Putting.{put_fits, put_made}
use Rattle.rowbits.proofs.put.Goals as goal

pub overflow_add-row : goal.overflow_add-row
overflow_add-row c = let a = c.args in
    record { fits = put_fits a.row.now a.n a.b c.requires.0 (search rules) c.requires.1 c.requires.2 }

pub returns : goal.returns
returns c = let a = c.args in
    put_made a.row.now a.n a.b c.requires.0 (search rules) c.requires.1 c.requires.2
