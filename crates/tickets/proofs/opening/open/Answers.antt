-- `tickets::opening::open` meets its contract. Assumes nothing.
use mathlib.Core.Path.{sym}
use Rattle.tickets.proofs.Opened.{open_refused, open_done}
use Rattle.tickets.proofs.opening.open.Goals as goal

pub returns-in-Ok : goal.returns-in-Ok
returns-in-Ok c = let e = open_done _ _ _ _ _ _ _ c.in-Ok.ensures.answer in record { answer = e; ticket = rw (sym e) c.new_ticket.ensures }

pub returns-in-Err : goal.returns-in-Err
returns-in-Err c = let e = open_refused _ _ _ _ _ _ _ c.in-Err.ensures.answer in record { answer = e; ticket = rw (sym e) c.new_ticket-in-Err.ensures }
