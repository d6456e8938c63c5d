mod Rounds
mod Keeping
mod SoFar
mod Acting
mod Asking
mod InTurn
