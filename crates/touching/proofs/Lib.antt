mod Pointwise
