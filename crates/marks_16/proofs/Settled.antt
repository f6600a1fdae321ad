-- Every public function's promise settles its answer.
use Rattle.settled.specs.Settles.{SettlesAnswer, same}
use Rattle.marks_16.proofs.change_marks.Reads as change-marks
use Rattle.marks_16.proofs.change_marks.Kinds as change-marks-kinds
use Rattle.marks_16.proofs.change_marks_in.Reads as change-marks-in
use Rattle.marks_16.proofs.change_marks_in.Kinds as change-marks-in-kinds
use Rattle.marks_16.proofs.tell.Reads as tell
use Rattle.marks_16.proofs.tell.Kinds as tell-kinds
use Rattle.marks_16.proofs.clear.Reads as clear
use Rattle.marks_16.proofs.clear.Kinds as clear-kinds

pub change-marks-settles : SettlesAnswer 0 change-marks-kinds.ps change-marks-kinds.r change-marks.Post
change-marks-settles κs a x y s t p q = same p q

pub change-marks-in-settles : SettlesAnswer 0 change-marks-in-kinds.ps change-marks-in-kinds.r change-marks-in.Post
change-marks-in-settles κs a x y s t p q = same p q

pub tell-settles : SettlesAnswer 0 tell-kinds.ps tell-kinds.r tell.Post
tell-settles κs a x y s t p q = same p q

pub clear-settles : SettlesAnswer 0 clear-kinds.ps clear-kinds.r clear.Post
clear-settles κs a x y s t p q = same p q
