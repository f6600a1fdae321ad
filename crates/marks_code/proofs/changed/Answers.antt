use Rattle.marks_code.proofs.changed.Goals as goal

pub returns-in-AnotherCleared : goal.returns-in-AnotherCleared
returns-in-AnotherCleared c = cc

pub returns-in-VendorCleared : goal.returns-in-VendorCleared
returns-in-VendorCleared c = cc

pub returns-in-Registered : goal.returns-in-Registered
returns-in-Registered c = cc
