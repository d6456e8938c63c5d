mod Journals
mod Openings
mod Printable
mod Results
mod RoundLemmas
mod SessionLemmas
mod TurnLemmas
mod WholeLemmas
