use Rattle.cmd_dm.specs.FaultLine.{line_of}
use Rattle.cmd_dm.proofs.fault_line.put_line.Goals as goal

pub returns-in-Refused : goal.returns-in-Refused
returns-in-Refused g c = rw c.in-Refused.is c.put_refusal.ensures

pub returns-in-Usage : goal.returns-in-Usage
unfolding line_of
returns-in-Usage g c = rw c.in-Usage.is c.put_piece.ensures

pub returns-in-Absent : goal.returns-in-Absent
unfolding line_of
returns-in-Absent g c = rw c.in-Absent.is c.put_file_line.ensures

pub returns-in-ReadFault : goal.returns-in-ReadFault
unfolding line_of
returns-in-ReadFault g c = rw c.in-ReadFault.is c.put_file_line-in-ReadFault.ensures

pub returns-in-WriteFault : goal.returns-in-WriteFault
unfolding line_of
returns-in-WriteFault g c = rw c.in-WriteFault.is c.put_piece-in-WriteFault.ensures

pub returns-in-Memory : goal.returns-in-Memory
unfolding line_of
returns-in-Memory g c = rw c.in-Memory.is c.put_piece-in-Memory.ensures

pub returns-in-TooLong : goal.returns-in-TooLong
unfolding line_of
returns-in-TooLong g c = rw c.in-TooLong.is c.put_file_line-in-TooLong.ensures
