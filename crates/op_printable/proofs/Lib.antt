mod Paths
mod Texts
mod Acts
mod Refusals
mod Histories
mod Bodies
mod Replies
