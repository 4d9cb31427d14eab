pub mod Layout
pub mod Steps
pub mod Laying
pub mod Deal
